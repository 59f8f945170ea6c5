-- A store counts the messages and the types among what it was given and their parts.
use Rattle.std.proofs.Common.{ℕ, ◌<◌, List, ◌∷◌, slice_get, length, sym, ap, subst, ◌∙◌, arith, ⊎_elim}
use Rattle.std.proofs.lemmas.Option.{slice_get_within}
use Rattle.spi_term.specs.Term.{Message, Ty}
use Rattle.spi_term.specs.Lists.{In, in_first, in_later}
use Rattle.spi_term.proofs.Lists.{get_some}
use Rattle.spi_intern.specs.declared.store.Store.{Store}
use Rattle.spi_intern.specs.Meaning.{Means, NoneTwice}
use Rattle.spi_intern.specs.Growing.{Has, HasTy, Given, MessageIn, TypeIn, Gave, gave_none, gave_next, GaveAtLeast, gave_nothing, gave_also, gave_up, MessageAmong, TypeAmong, CountsParts, CountsPartsAtLeast}
use Rattle.spi_intern.proofs.Grown.{has_kept}
use Rattle.spi_intern.proofs.Meanings.{means_keeps}
use Rattle.spi_intern.proofs.Telling.{types_tell, messages_tell}

has_all : {gs : List Given} {s : Store} → Gave gs s → (x : Message) (g : Given) → In g gs → MessageIn g x → Has s.messages x
has_all (gave_none e f) x g i p = elim i [ ]
has_all (gave_next w k a) x g in_first p = a.messages.all x p
has_all (gave_next w k a) x g (in_later i) p = has_kept k.messages (has_all w x g i p)

later : {g : Given} {gs : List Given} {x : Message} → MessageAmong gs x → MessageAmong (g ∷ gs) x
later m = record { given = m.given; stands = in_later m.stands; part = m.part }

pub has_only : {gs : List Given} {s : Store} → Gave gs s → (x : Message) → Has s.messages x → MessageAmong gs x
has_only (gave_none e f) x h = let z = ap (λ zs. slice_get zs h.place) (sym e) ∙ h.at in absurd cc
has_only (gave_next {g = g} w k a) x h = ⊎_elim (λ o. later (has_only w x o)) (λ p. record { given = g; stands = in_first; part = p }) (a.messages.only x h)

ty_all : {gs : List Given} {s : Store} → Gave gs s → (u : Ty) (g : Given) → In g gs → TypeIn g u → HasTy s u
ty_all (gave_none e f) u g i p = elim i [ ]
ty_all (gave_next w k a) u g in_first p = a.types.all u p
ty_all (gave_next w k a) u g (in_later i) p = let h = ty_all w u g i p in record { place = h.place; means = means_keeps k h.means }

ty_later : {g : Given} {gs : List Given} {u : Ty} → TypeAmong gs u → TypeAmong (g ∷ gs) u
ty_later m = record { given = m.given; stands = in_later m.stands; part = m.part }

ty_only : {gs : List Given} {s : Store} → Gave gs s → (i : ℕ) → i < length s.types → (u : Ty) × TypeAmong gs u × Means s i u
ty_only (gave_none e f) i h = let z = subst (λ zs. i < length zs) f h in absurd (omega arith)
ty_only (gave_next {g = g} w k a) i h =
    ⊎_elim (λ o. let r = ty_only w i o in (r.0, ty_later r.1, means_keeps k r.2)) (λ r. (r.0, record { given = g; stands = in_first; part = r.1 }, r.2)) (a.types.only i h)

pub counted : (gs : List Given) (s : Store) → Gave gs s → NoneTwice s → CountsParts gs s
counted gs s w d = record {
  messages = record {
    each = λ i h. let r = get_some s.messages i h in (r.0, has_only w r.0 record { place = i; at = r.1 }, r.1);
    all = λ x m. let h = has_all w x m.given m.stands m.part in (h.place, slice_get_within s.messages h.place x h.at, h.at);
    apart = λ i j x y a b. messages_tell d.messages i j x y a b;
  };
  types = record {
    each = ty_only w;
    all = λ u m. let h = ty_all w u m.given m.stands m.part in (h.place, slice_get_within s.types h.place h.means.kind h.means.at, h.means);
    apart = types_tell s d;
  };
}

-- ---- where calls answered NoMemory

pub has_still : {gs : List Given} {s : Store} → GaveAtLeast gs s → (x : Message) (g : Given) → In g gs → MessageIn g x → Has s.messages x
has_still gave_nothing x g i p = elim i [ ]
has_still (gave_also w k a) x g in_first p = a.messages.all x p
has_still (gave_also w k a) x g (in_later i) p = has_kept k.messages (has_still w x g i p)
has_still (gave_up w k) x g i p = has_kept k.messages (has_still w x g i p)

ty_still : {gs : List Given} {s : Store} → GaveAtLeast gs s → (u : Ty) (g : Given) → In g gs → TypeIn g u → HasTy s u
ty_still gave_nothing u g i p = elim i [ ]
ty_still (gave_also w k a) u g in_first p = a.types.all u p
ty_still (gave_also w k a) u g (in_later i) p = let h = ty_still w u g i p in record { place = h.place; means = means_keeps k h.means }
ty_still (gave_up w k) u g i p = let h = ty_still w u g i p in record { place = h.place; means = means_keeps k h.means }

pub counted_at_least : (gs : List Given) (s : Store) → GaveAtLeast gs s → NoneTwice s → CountsPartsAtLeast gs s
counted_at_least gs s w d = record {
  messages = record {
    all = λ x m. let h = has_still w x m.given m.stands m.part in (h.place, slice_get_within s.messages h.place x h.at, h.at);
    apart = λ i j x y a b. messages_tell d.messages i j x y a b;
  };
  types = record {
    all = λ u m. let h = ty_still w u m.given m.stands m.part in (h.place, slice_get_within s.types h.place h.means.kind h.means.at, h.means);
    apart = types_tell s d;
  };
}
