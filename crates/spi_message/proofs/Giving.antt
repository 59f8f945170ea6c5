-- Terms that were given numbers by several calls.
use Rattle.std.proofs.Common.{◌≡◌, ℕ, zero, suc, List, [], ◌∷◌, ◌++◌, Some, slice_get, sym, ap, subst, ◌∙◌, ◌⊎◌, inl, inr, ⊎_elim, Result, Ok, Err, OnOk, arith}
use Rattle.spi_term.specs.Term.{Message, Effect, Ty, un}
use Rattle.spi_term.specs.Lists.{In, in_first as first_of, in_later as later_of}
use Rattle.spi_term.specs.Substitution.{ty_put}
use Rattle.spi_term.proofs.Lists.{some_is}
use Rattle.spi_rules.specs.Environment.{Env}
use Rattle.spi_intern.specs.Messages.{message_at}
use Rattle.spi_intern.specs.Parts.{PartOf, whole, of_first, of_second, of_left, of_right, of_body, of_key, of_hash, InEffect, in_first, in_later, InTy, in_pair_first, in_pair_second, in_sum_left, in_sum_right, in_key, in_nonce}
use Rattle.spi_intern.specs.Meaning.{Means, Keeps, NoneTwice}
use Rattle.spi_intern.specs.Growing.{Has, Given, a_type, MessageIn, Adds, Gave, gave_none, gave_next, GaveAtLeast, gave_nothing, gave_also, MessageAmong, CountsParts, CountsPartsAtLeast}
use Rattle.spi_intern.specs.declared.messages.MsgId.{MsgId}
use Rattle.spi_intern.specs.declared.types.TyId.{TyId}
use Rattle.spi_intern.specs.declared.store.Store.{Store}
use Rattle.spi_intern.proofs.Meanings.{terms_same, terms_more}
use Rattle.spi_intern.proofs.Counted.{counted, counted_at_least, has_only, has_still}
use Rattle.spi_intern.proofs.Sized.{at_message}
use Rattle.spi_message.specs.Filling.{values_of}
use Rattle.spi_message.specs.Judging.{Numbered}
use Rattle.spi_message.specs.Giving.{HasParts, GrowsBy, grows_none, grows_next, GivesOnly, Compared, with_un, with_type, with_payload, Tested, the_message, its_typing, Examined, the_name, its_type, in_first as from_first, in_second, in_left, in_right, in_payload, of_atom, IsWholeGiven, whole_message, whole_type, AreWhole, HasGiven, HasGivenAtLeast}
use Rattle.spi_message.specs.Added.{TypeIsAdded}
use Rattle.spi_message.proofs.Typings.{filled_one}

-- ---- several calls

in_either : {A : Type 0} {x : A} (xs ys : List A) → In x (xs ++ ys) → In x xs ⊎ In x ys
in_either [] ys h = inr h
in_either (y ∷ xs) ys first_of = inl first_of
in_either (y ∷ xs) ys (later_of h) = ⊎_elim (λ a. inl (later_of a)) inr (in_either xs ys h)

pub grows_keeps : {s r : Store} {gs : List Given} → GrowsBy s gs r → Keeps s r
grows_keeps {s} grows_none = terms_same s
grows_keeps (grows_next w k a) = terms_more (grows_keeps w) k

grows_more : {s q r : Store} {gs hs : List Given} → GrowsBy s gs q → GrowsBy q hs r → GrowsBy s (hs ++ gs) r
grows_more w grows_none = w
grows_more w (grows_next z k a) = grows_next (grows_more w z) k a

pub gives_none : {P : Given → Type 0} {s : Store} → GivesOnly P s s
gives_none = record { given = []; each = λ g i. elim i [ ]; grows = grows_none }

pub gives_one : {P : Given → Type 0} {s r : Store} {g : Given} → P g → Keeps s r → Adds s r g → GivesOnly P s r
gives_one {P} {g = g} p k a = record { given = g ∷ []; each = each; grows = grows_next grows_none k a }
  where
    each : (h : Given) → In h (g ∷ []) → P h
    each h first_of = p
    each h (later_of i) = elim i [ ]

pub gives_more : {P : Given → Type 0} {s q r : Store} → GivesOnly P s q → GivesOnly P q r → GivesOnly P s r
gives_more w z = record {
  given = z.given ++ w.given;
  each = λ g i. ⊎_elim (λ a. z.each g a) (λ a. w.each g a) (in_either z.given w.given i);
  grows = grows_more w.grows z.grows;
}

pub gives_as : {P Q : Given → Type 0} {s r : Store} → ((g : Given) → P g → Q g) → GivesOnly P s r → GivesOnly Q s r
gives_as f w = record { given = w.given; each = λ g i. f g (w.each g i); grows = w.grows }

-- ---- a type that is opened

abbrev pub OpeningAdds : {E : Type 0} → Result TyId E → Store → TyId → MsgId → Numbered → Type 0
OpeningAdds r q t m j = OnOk r ((u : Ty) (n : Message) → Means j.store t.place u → slice_get j.store.messages m.place ≡ Some n → HasParts j.store.messages n → Adds j.store q (a_type (ty_put n u)))

one_has_parts : (s : Store) (m : MsgId) → HasParts s.messages (message_at s.messages m) → (i : ℕ) (v : Message) → slice_get (values_of s.messages (m ∷ [])) i ≡ Some v → HasParts s.messages v
one_has_parts s m p zero v g = subst (HasParts s.messages) (some_is g) p
one_has_parts s m p (suc i) v g = absurd cc

pub opened_adds : {E : Type 0} (s q : Store) (f : ℕ) (ids : List TyId) (t : TyId) (m : MsgId) (r : Result TyId E) → OnOk r (TypeIsAdded s q (m ∷ []) 0 t) → OpeningAdds r q t m record { store = s; free = f; types = ids }
opened_adds s q f ids t m (Ok id) h = λ u n mu at p.
    let e = at_message s.messages m at in
    subst (λ v. Adds s q (a_type v)) (filled_one (message_at s.messages m) u ∙ ap (λ k. ty_put k u) e) (h.at 0 u (omega arith) mu record { at = one_has_parts s m (subst (HasParts s.messages) (sym e) p) })
opened_adds s q f ids t m (Err e) h = tt

-- ---- a part of a part

pub part_trans : {x a m : Message} → PartOf x a → PartOf a m → PartOf x m
part_trans p whole = p
part_trans p (of_first q) = of_first (part_trans p q)
part_trans p (of_second q) = of_second (part_trans p q)
part_trans p (of_left q) = of_left (part_trans p q)
part_trans p (of_right q) = of_right (part_trans p q)
part_trans p (of_body q) = of_body (part_trans p q)
part_trans p (of_key q) = of_key (part_trans p q)
part_trans p (of_hash q) = of_hash (part_trans p q)

pub parts_of_part : {ms : List Message} {a m : Message} → PartOf a m → HasParts ms m → HasParts ms a
parts_of_part q h = record { each = λ x p. h.each x (part_trans p q) }

-- ---- stores to which whole terms were given

in_atoms : {x y : Message} {es : Effect} → PartOf x y → InEffect y es → InEffect x es
in_atoms p (in_first q) = in_first (part_trans p q)
in_atoms p (in_later h) = in_later (in_atoms p h)

in_types : {x y : Message} {t : Ty} → PartOf x y → InTy y t → InTy x t
in_types p (in_pair_first h) = in_pair_first (in_types p h)
in_types p (in_pair_second h) = in_pair_second (in_types p h)
in_types p (in_sum_left h) = in_sum_left (in_types p h)
in_types p (in_sum_right h) = in_sum_right (in_types p h)
in_types p (in_key h) = in_key (in_types p h)
in_types p (in_nonce h) = in_nonce (in_atoms p h)

-- a whole term has the parts of the messages in it
whole_parts : {x y : Message} (g : Given) → IsWholeGiven g → PartOf x y → MessageIn g y → MessageIn g x
whole_parts _ whole_message p h = part_trans p h
whole_parts _ whole_type p h = in_types p h

among_parts : {gs : List Given} {x y : Message} → AreWhole gs → PartOf x y → MessageAmong gs y → MessageAmong gs x
among_parts w p m = record { given = m.given; stands = m.stands; part = whole_parts m.given (w.each m.given m.stands) p m.part }

least_of : {gs : List Given} {s : Store} → Gave gs s → GaveAtLeast gs s
least_of (gave_none e f) = gave_nothing
least_of (gave_next w k a) = gave_also (least_of w) k a

pub judged_parts : (gs : List Given) (s : Store) (n : Message) → HasGiven gs s → Has s.messages n → HasParts s.messages n
judged_parts gs s n w h = record { each = λ x p. let m = among_parts w.whole p (has_only w.gave n h) in has_still (least_of w.gave) x m.given m.stands m.part }

pub least_parts : (gs : List Given) (s : Store) (n : Message) → HasGivenAtLeast gs s → MessageAmong gs n → HasParts s.messages n
least_parts gs s n w h = record { each = λ x p. let m = among_parts w.whole p h in has_still w.gave x m.given m.stands m.part }

pub judged_counted : (gs : List Given) (s : Store) → HasGiven gs s → NoneTwice s → CountsParts gs s
judged_counted gs s w d = counted gs s w.gave d

pub least_counted : (gs : List Given) (s : Store) → HasGivenAtLeast gs s → NoneTwice s → CountsPartsAtLeast gs s
least_counted gs s w d = counted_at_least gs s w.gave d

gave_more : {gs : List Given} {s : Store} {hs : List Given} {r : Store} → Gave gs s → GrowsBy s hs r → Gave (hs ++ gs) r
gave_more w grows_none = w
gave_more w (grows_next z k a) = gave_next (gave_more w z) k a

least_more : {gs : List Given} {s : Store} {hs : List Given} {r : Store} → GaveAtLeast gs s → GrowsBy s hs r → GaveAtLeast (hs ++ gs) r
least_more w grows_none = w
least_more w (grows_next z k a) = gave_also (least_more w z) k a

whole_more : {gs : List Given} (hs : List Given) → AreWhole hs → AreWhole gs → AreWhole (hs ++ gs)
whole_more {gs} hs z w = record { each = λ g i. ⊎_elim (λ a. z.each g a) (λ a. w.each g a) (in_either hs gs i) }

pub judged_next : (gs hs : List Given) (s r : Store) → HasGiven gs s → GrowsBy s hs r → AreWhole hs → HasGiven (hs ++ gs) r
judged_next gs hs s r w z h = record { gave = gave_more w.gave z; whole = whole_more hs h w.whole }

pub least_next : (gs hs : List Given) (s r : Store) → HasGivenAtLeast gs s → GrowsBy s hs r → AreWhole hs → HasGivenAtLeast (hs ++ gs) r
least_next gs hs s r w z h = record { gave = least_more w.gave z; whole = whole_more hs h w.whole }

pub first_given : {s r : Store} {t : Ty} → s.messages ≡ [] → s.types ≡ [] → Keeps s r → Adds s r (a_type t) → HasGiven (a_type t ∷ []) r
first_given {t = t} p q k a = record { gave = gave_next (gave_none p q) k a; whole = record { each = each } }
  where
    each : (g : Given) → In g (a_type t ∷ []) → IsWholeGiven g
    each _ first_of = whole_type
    each g (later_of i) = elim i [ ]

pub compared_whole : (env : Env) (n : Message) (u : Ty) (g : Given) → Compared env n u g → IsWholeGiven g
compared_whole env n u _ with_un = whole_type
compared_whole env n u _ (with_type o) = whole_type
compared_whole env n u _ (with_payload i o) = whole_type

tested_whole : (env : Env) (n : Message) (g : Given) → Tested env n g → IsWholeGiven g
tested_whole env n _ the_message = whole_message
tested_whole env n g (its_typing h) = compared_whole env n un g h

pub examined_whole : (env : Env) (u : Ty) (g : Given) → Examined env u g → IsWholeGiven g
examined_whole env _ _ the_name = whole_message
examined_whole env _ _ its_type = whole_type
examined_whole env _ g (from_first h) = examined_whole env _ g h
examined_whole env _ g (in_second h) = examined_whole _ _ g h
examined_whole env _ g (in_left h) = examined_whole env _ g h
examined_whole env _ g (in_right h) = examined_whole env _ g h
examined_whole env _ g (in_payload h) = examined_whole env _ g h
examined_whole env _ g (of_atom i h) = tested_whole env _ g h
