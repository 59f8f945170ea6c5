-- What `bench` promises.
use Rattle.std.proofs.Common.{◌≡◌, ◌↔◌, inl, inr, ℕ, List, [], ◌∷◌, ◌++◌, map, length, Option, Some, None, refl, sym, subst, append_assoc, append-nil, arith}
use Rattle.std.specs.Prelude.{IsSome}
use Rattle.std.proofs.lemmas.Option.{slice_get_within}
use Rattle.std.specs.Io.KnownBytes.{Appends}
use Rattle.spi_lex.specs.declared.token.Token.{Token}
use Rattle.spi_rules.specs.Derivations.{Derivable}
use Rattle.spi_rules.specs.Environment.{untrusted}
use Rattle.spi_term.specs.Term.{Process}
use Rattle.spi_scope.specs.StandsFor.{Meant}
use Rattle.spi_scope.specs.First.{IsClean, HasFirst}
use Rattle.spi_scope.specs.Points.{in_order, file_points}
use Rattle.spi_scope.proofs.Firsts.{never_both}
use Rattle.spi_bench.specs.Parts.{Benched, IsYes, part_named}
use Rattle.spi_bench.specs.Whole.{whole_process_of}
use Rattle.spi_edits.specs.Edits.{Edit, Bench}
use Rattle.spi_edits.specs.Grammar.{whole_bench, IsBench}
use Rattle.spi_edits.proofs.OneBench.{one_spelled}
use Rattle.spi_workbench.specs.Reading.{file_with, bench_after, parts_after}
use Rattle.spi_workbench.specs.Answers.{EditStands, EditsStand, BenchStands, IsEditRefused, wrong_part, too_large, unknown, RefusesEdits, too_many_shared, wrong_heading, too_many_edits, wrong_edit}
use Rattle.spi_workbench.specs.declared.answer.Refusal.{Refusal}
use Rattle.spi_commands.specs.declared.status.Status.{Status}
use Rattle.spi_commands.specs.declared.status.Status.TheVariants.{Yes, No, Refused, ReadFault, WriteFault, NoMemory, Usage}
use Rattle.spi_commands.specs.Spelled.{SpellsFile, IsDerivable}
use Rattle.spi_commands.specs.Benching.{IsBenchOf, SpellsBench, IsUnjudged, unjudged, RefusesBench, HasVerdicts, EndsWithYes, BenchesTo, SpellsYes, SpellsNo, SpellsNoBench, IsWholeOf, IsChecked, IsBenchedOn}
use Rattle.spi_commands.proofs.FileFacts.{OneFile}
use Rattle.spi_commands.proofs.FileRefusals.{OneLexing, same_tokens, unlexed_never, unparsed_never}

-- ---- one bench

bench_once : OneLexing → (bytes : List ℕ) (b c : Bench) → IsBenchOf bytes b → IsBenchOf bytes c → b ≡ c
bench_once lexing bytes b c h k =
    one_spelled b c h.tokens h.spelled (subst (λ (ts : List Token). Rattle.spi_edits.specs.Reads.IsBenchSpelled c ts) (same_tokens lexing bytes k.tokens h.tokens k.lexed h.lexed) k.spelled)

-- ---- what stands isn't refused

clean_never : (b : Bench) (p : Rattle.spi_tree.specs.Trees.Proc) (f : Rattle.spi_scope.specs.declared.fault.ScopeFault.ScopeFault) → IsClean (file_with b p) → HasFirst (file_with b p) f → ⊥
clean_never b p f h k = never_both (in_order (file_points (file_with b p))) f h k

none_never : {A : Type 0} (o : Option A) → IsSome o → o ≡ None → ⊥
none_never None h e = cc
none_never (Some x) h e = cc

edit_never : (b : Bench) (before : List Edit) (e : Edit) (r : Refusal) → EditStands b before e → IsEditRefused b before e r → ⊥
edit_never b before e r h (wrong_part {p = p} {f = f} first) = clean_never b p f h.0 first
edit_never b before e r h (too_large clean more) = omega (arith, h.1, more)
edit_never b before e r h (unknown {w = w} none) = none_never (part_named w.word (parts_after b [] before)) h none

-- an edit stands where all do
stands_at : (b : Bench) (front before : List Edit) (e : Edit) (after : List Edit) → EditsStand b front (before ++ e ∷ after) → EditStands b (front ++ before) e
stands_at b front [] e after h = subst (λ (l : List Edit). EditStands b l e) (sym (append-nil front)) h.0
stands_at b front (d ∷ before) e after h = subst (λ (l : List Edit). EditStands b l e) (append_assoc front (d ∷ []) before) (stands_at b (front ++ d ∷ []) before e after h.1)

stands_never : (b : Bench) (end : ℕ) (r : Refusal) → BenchStands b end → RefusesEdits b end r → ⊥
stands_never b end r h (too_many_shared {s = s} g) = let l = slice_get_within b.shared 16 s g in let few = h.heading.few in omega (arith, l, few)
stands_never b end r h (wrong_heading {f = f} few first) = clean_never b _ f h.heading.clean first
stands_never b end r h (too_many_edits {e = e} stands g) = let l = slice_get_within b.edits 1000 e g in let few = h.few in omega (arith, l, few)
stands_never b end r h (wrong_edit before after {e = e} {r = f} stands few cut ahead refused) =
    edit_never b before e f (stands_at b [] before e after (subst (λ (l : List Edit). EditsStand b [] l) cut h.edits)) refused

refused_never : OneLexing → (bytes : List ℕ) (b : Bench) → SpellsBench bytes b → {number : ℕ} {offset : Option ℕ} {shown : List ℕ} → (c : Bench) → IsBenchOf bytes c → IsUnjudged c (length bytes) number offset shown → ⊥
refused_never lexing bytes b (is, stands) c other (unjudged {r = r} h) = stands_never b (length bytes) r stands (subst (λ (x : Bench). RefusesEdits x (length bytes) r) (bench_once lexing bytes c b other is) h)

none_spelled : OneLexing → (bytes : List ℕ) (number : ℕ) (offset : Option ℕ) (shown : List ℕ) → RefusesBench bytes number offset shown → SpellsNoBench bytes
none_spelled lexing bytes number offset shown (inl h) = λ b s. unlexed_never lexing h s.0.within s.0.tokens s.0.lexed
none_spelled lexing bytes number offset shown (inr (inl h)) = λ b s. unparsed_never whole_bench IsBench lexing h b s.0.spelled.0 s.0.tokens s.0.lexed s.0.spelled.1
none_spelled lexing bytes number offset shown (inr (inr (c, is, h))) = λ b s. refused_never lexing bytes b s c is h

-- ---- verdicts are those of `check`

derivable_is : (q : Benched) (n : ℕ) (p : Process) → n ≡ q.free → p ≡ whole_process_of q.free q.shared (map (λ part. part.part.process) q.parts) → IsYes q ↔ Derivable (untrusted n) p []
derivable_is q n p e f = rw (e, f) (λ y. y, λ y. y)

checked : OneFile → (q : Benched) (others : List ℕ) (file : Meant) → SpellsFile others file → IsWholeOf q file → IsChecked q others
checked one q others file spells (names, process) =
    let same : IsYes q ↔ IsDerivable file = derivable_is q file.process.names file.process.process names process in
    let that : (g : Meant) → SpellsFile others g → g ≡ file = λ g s. one others g file s spells in
    record {
      yes = (λ y. (file, spells, same.0 y), λ d. same.1 (subst IsDerivable (that d.0 d.1) d.2));
      no = (λ n. (file, spells, λ d. n (same.1 d)), λ u y. u.2 (subst IsDerivable (sym (that u.0 u.1)) (same.0 y)));
    }

-- ---- the promise

module _ (lexing : OneLexing) (one : OneFile) (bytes : List ℕ) where
  never_two : SpellsYes bytes → SpellsNo bytes → ⊥
  never_two (b, h, y) (c, k, n) = n (subst EndsWithYes (bench_once lexing bytes b c h.0 k.0) y)

  module _ (old new : Option (List ℕ)) where
    written_of : (b : Bench) (output : List ℕ) → SpellsBench bytes b → HasVerdicts b output → Appends old new output → (c : Bench) → SpellsBench bytes c → (output : List ℕ) × HasVerdicts c output × Appends old new output
    written_of b output h v put c k = (output, subst (λ (x : Bench). HasVerdicts x output) (bench_once lexing bytes b c h.0 k.0) v, put)

    pub benches : (output : List ℕ) (status : Status) → BenchesTo bytes status output → Appends old new output → IsBenchedOn bytes old new status
    benches output Yes (b, h, y, v) put = record {
      yes = (λ e. (b, h, y), λ s. refl);
      no = (λ e. absurd (cc), λ s. absurd (never_two (b, h, y) s));
      refused = (λ e. absurd (cc), λ none. absurd (none b h));
      written = written_of b output h v put;
      checked = λ c k before after cut others file spells is. checked one (bench_after c before) others file spells is;
    }
    benches output No (b, h, n, v) put = record {
      yes = (λ e. absurd (cc), λ s. absurd (never_two s (b, h, n)));
      no = (λ e. (b, h, n), λ s. refl);
      refused = (λ e. absurd (cc), λ none. absurd (none b h));
      written = written_of b output h v put;
      checked = λ c k before after cut others file spells is. checked one (bench_after c before) others file spells is;
    }
    benches output Refused (r, why, line) put =
        let none = none_spelled lexing bytes r.number r.offset r.shown.items why in
        record {
          yes = (λ e. absurd (cc), λ s. absurd (none s.0 s.1));
          no = (λ e. absurd (cc), λ s. absurd (none s.0 s.1));
          refused = (λ e. none, λ s. refl);
          written = λ c k. absurd (none c k);
          checked = λ c k before after cut others file spells is. absurd (none c k);
        }
    benches output ReadFault is put = absurd is
    benches output WriteFault is put = absurd is
    benches output NoMemory is put = absurd is
    benches output Usage is put = absurd is
