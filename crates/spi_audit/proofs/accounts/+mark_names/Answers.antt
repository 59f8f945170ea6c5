use Rattle.spi_audit.proofs.Marking.{marks_bound, marks_unit, marks_name, marks_pair, marks_enc, marks_left, marks_right, marks_hash}
use Rattle.std.proofs.Common.{arith, ◌≡◌, Some, max}
use Rattle.std.specs.Prelude.{slice_get}
use Rattle.spi_term.specs.Term.{Message}
use Rattle.spi_term.proofs.Choices.{on_ok}
use Rattle.spi_count.specs.Counts.{count_of, Sets}
use Rattle.spi_audit.specs.Accounts.{Marks}
use Rattle.spi_intern.proofs.Sized.{pair_of, enc_of, left_of, right_of, hash_of}
use Rattle.spi_audit.proofs.accounts.+mark_names.Goals as goal

pub mark_names-requires : goal.mark_names-requires
mark_names-requires t c = let w = pair_of _ _ c.in-Pair.ensures c.requires in (omega (arith, w.size, c.decreases), w.first)

pub mark_names-requires-in-Pair : goal.mark_names-requires-in-Pair
mark_names-requires-in-Pair t c = let w = pair_of _ _ c.in-Pair.ensures c.requires in (omega (arith, w.size, c.decreases), w.second)

pub mark_names-requires-in-Inl : goal.mark_names-requires-in-Inl
mark_names-requires-in-Inl t c = let w = left_of _ _ c.in-Inl.ensures c.requires in (omega (arith, w.size, c.decreases), w.part)

pub mark_names-requires-in-Inr : goal.mark_names-requires-in-Inr
mark_names-requires-in-Inr t c = let w = right_of _ _ c.in-Inr.ensures c.requires in (omega (arith, w.size, c.decreases), w.part)

pub mark_names-requires-in-Enc : goal.mark_names-requires-in-Enc
mark_names-requires-in-Enc t c = let w = enc_of _ _ c.in-Enc.ensures c.requires in (omega (arith, w.size, c.decreases), w.first)

pub mark_names-requires-in-Enc-2 : goal.mark_names-requires-in-Enc-2
mark_names-requires-in-Enc-2 t c = let w = enc_of _ _ c.in-Enc.ensures c.requires in (omega (arith, w.size, c.decreases), w.second)

pub mark_names-requires-in-Hash : goal.mark_names-requires-in-Hash
mark_names-requires-in-Hash t c = let w = hash_of _ _ c.in-Hash.ensures c.requires in (omega (arith, w.size, c.decreases), w.part)

pub returns-in-Bound : goal.returns-in-Bound
returns-in-Bound t c m e = marks_bound c.args.loose.now.counts (c.in-Bound.ensures m e)

pub returns-in-Unit : goal.returns-in-Unit
returns-in-Unit t c m e = marks_unit c.args.loose.now.counts (c.in-Unit.ensures m e)

pub returns-in-Name : goal.returns-in-Name
returns-in-Name t c =
    on_ok {P = Sets c.args.loose.now.counts c.raise_to.new.self.counts c.in-Name.x (max (count_of c.args.loose.now.counts c.in-Name.x) 1)} {Q = (m : Message) → slice_get c.args.store.now.messages c.args.id.place ≡ Some m → Marks c.args.loose.now.counts c.raise_to.new.self.counts m} c.raise_to.result (λ s m e. marks_name c.args.loose.now.counts c.raise_to.new.self.counts s (c.in-Name.ensures m e)) c.raise_to.ensures

pub returns-in_ok-mark_names-in-Pair : goal.returns-in_ok-mark_names-in-Pair
returns-in_ok-mark_names-in-Pair t c =
    on_ok {P = (m : Message) → slice_get c.args.store.now.messages c.in-Pair.b.place ≡ Some m → Marks c.mark_names.new.loose.counts c.mark_names-in-Pair.new.loose.counts m} {Q = (m : Message) → slice_get c.args.store.now.messages c.args.id.place ≡ Some m → Marks c.args.loose.now.counts c.mark_names-in-Pair.new.loose.counts m} c.mark_names-in-Pair.result
    (λ h m e. marks_pair c.args.loose.now.counts c.mark_names.new.loose.counts c.mark_names-in-Pair.new.loose.counts (c.in-Pair.ensures m e) c.in_ok-mark_names-in-Pair.ensures h) c.mark_names-in-Pair.ensures

pub returns-in_ok-mark_names-in-Enc : goal.returns-in_ok-mark_names-in-Enc
returns-in_ok-mark_names-in-Enc t c =
    on_ok {P = (m : Message) → slice_get c.args.store.now.messages c.in-Enc.b.place ≡ Some m → Marks c.mark_names-in-Enc.new.loose.counts c.mark_names-in-Enc-2.new.loose.counts m} {Q = (m : Message) → slice_get c.args.store.now.messages c.args.id.place ≡ Some m → Marks c.args.loose.now.counts c.mark_names-in-Enc-2.new.loose.counts m} c.mark_names-in-Enc-2.result
    (λ h m e. marks_enc c.args.loose.now.counts c.mark_names-in-Enc.new.loose.counts c.mark_names-in-Enc-2.new.loose.counts (c.in-Enc.ensures m e) c.in_ok-mark_names-in-Enc.ensures h) c.mark_names-in-Enc-2.ensures

pub returns-in-Inl : goal.returns-in-Inl
returns-in-Inl t c =
    on_ok {P = (m : Message) → slice_get c.args.store.now.messages c.in-Inl.a.place ≡ Some m → Marks c.args.loose.now.counts c.mark_names-in-Inl.new.loose.counts m} {Q = (m : Message) → slice_get c.args.store.now.messages c.args.id.place ≡ Some m → Marks c.args.loose.now.counts c.mark_names-in-Inl.new.loose.counts m} c.mark_names-in-Inl.result (λ h m e. marks_left c.args.loose.now.counts c.mark_names-in-Inl.new.loose.counts (c.in-Inl.ensures m e) h) c.mark_names-in-Inl.ensures

pub returns-in-Inr : goal.returns-in-Inr
returns-in-Inr t c =
    on_ok {P = (m : Message) → slice_get c.args.store.now.messages c.in-Inr.a.place ≡ Some m → Marks c.args.loose.now.counts c.mark_names-in-Inr.new.loose.counts m} {Q = (m : Message) → slice_get c.args.store.now.messages c.args.id.place ≡ Some m → Marks c.args.loose.now.counts c.mark_names-in-Inr.new.loose.counts m} c.mark_names-in-Inr.result (λ h m e. marks_right c.args.loose.now.counts c.mark_names-in-Inr.new.loose.counts (c.in-Inr.ensures m e) h) c.mark_names-in-Inr.ensures

pub returns-in-Hash : goal.returns-in-Hash
returns-in-Hash t c =
    on_ok {P = (m : Message) → slice_get c.args.store.now.messages c.in-Hash.a.place ≡ Some m → Marks c.args.loose.now.counts c.mark_names-in-Hash.new.loose.counts m} {Q = (m : Message) → slice_get c.args.store.now.messages c.args.id.place ≡ Some m → Marks c.args.loose.now.counts c.mark_names-in-Hash.new.loose.counts m} c.mark_names-in-Hash.result (λ h m e. marks_hash c.args.loose.now.counts c.mark_names-in-Hash.new.loose.counts (c.in-Hash.ensures m e) h) c.mark_names-in-Hash.ensures
