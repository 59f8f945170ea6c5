-- What is interned stands in the list, and nothing but it and its parts is new.
use Rattle.std.proofs.Common.{◌≡◌, Bool, true, false, if◌then◌else◌, List, [], ◌∷◌, ◌++◌, Some, slice_get, length, refl, sym, ap, subst, ◌∙◌, ◌⊎◌, inl, inr, ⊎_elim}
use Rattle.std.specs.List.{list_any}
use Rattle.spi_term.specs.Term.{Message, bound, name, unit, pair, in_left, in_right, enc, hash, same_message}
use Rattle.spi_intern.specs.Table.{KeepsAll}
use Rattle.spi_intern.specs.Messages.{message_added, interned}
use Rattle.spi_intern.specs.Parts.{PartOf, whole, of_first, of_second, of_left, of_right, of_body, of_key, of_hash}
use Rattle.spi_intern.specs.Growing.{Has, AddsMessages}
use Rattle.spi_intern.proofs.Lists.{get_push, any_at}
use Rattle.spi_intern.proofs.MessageLaws.{same_true}
use Rattle.spi_intern.proofs.Tables.{keeps_more, keeps_with}

keeps_added : (ms : List Message) (m : Message) → KeepsAll ms (message_added ms m)
keeps_added ms m = keeps_with same_message ms m

pub has_kept : {ms ns : List Message} {x : Message} → KeepsAll ms ns → Has ms x → Has ns x
has_kept k h = record { place = h.place; at = k.at _ _ h.at }

only_added : (ms : List Message) (m x : Message) → Has (message_added ms m) x → Has ms x ⊎ PartOf x m
only_added ms m x = by (list_any (same_message m) ms)
  where
    by : (b : Bool) → Has (if b then ms else ms ++ m ∷ []) x → Has ms x ⊎ PartOf x m
    by true h = inl h
    by false h = ⊎_elim (λ e. inl record { place = h.place; at = e }) (λ e. inr (subst (PartOf x) e.1 whole)) (get_push ms m h.place x h.at)

-- nothing but the message and its parts is new
only_parts : (m : Message) (ms : List Message) (x : Message) → Has (interned ms m) x → Has ms x ⊎ PartOf x m
only_parts (bound i) ms x h = only_added ms (bound i) x h
only_parts (name n) ms x h = only_added ms (name n) x h
only_parts unit ms x h = only_added ms unit x h
only_parts (pair a b) ms x h = ⊎_elim (λ g. ⊎_elim (λ f. ⊎_elim inl (λ p. inr (of_first p)) (only_parts a ms x f)) (λ p. inr (of_second p)) (only_parts b (interned ms a) x g)) inr (only_added (interned (interned ms a) b) (pair a b) x h)
only_parts (in_left a) ms x h = ⊎_elim (λ g. ⊎_elim inl (λ p. inr (of_left p)) (only_parts a ms x g)) inr (only_added (interned ms a) (in_left a) x h)
only_parts (in_right a) ms x h = ⊎_elim (λ g. ⊎_elim inl (λ p. inr (of_right p)) (only_parts a ms x g)) inr (only_added (interned ms a) (in_right a) x h)
only_parts (enc a b) ms x h = ⊎_elim (λ g. ⊎_elim (λ f. ⊎_elim inl (λ p. inr (of_body p)) (only_parts a ms x f)) (λ p. inr (of_key p)) (only_parts b (interned ms a) x g)) inr (only_added (interned (interned ms a) b) (enc a b) x h)
only_parts (hash a) ms x h = ⊎_elim (λ g. ⊎_elim inl (λ p. inr (of_hash p)) (only_parts a ms x g)) inr (only_added (interned ms a) (hash a) x h)

get_last : (ms : List Message) (m : Message) → slice_get (ms ++ m ∷ []) (length ms) ≡ Some m
get_last [] m = refl
get_last (x ∷ ms) m = get_last ms m

added_has : (ms : List Message) (m : Message) → Has (message_added ms m) m
added_has ms m = by (list_any (same_message m) ms) refl
  where
    by : (b : Bool) → list_any (same_message m) ms ≡ b → Has (if b then ms else ms ++ m ∷ []) m
    by true e = let r = any_at (same_message m) ms e in record { place = r.0; at = r.2 ∙ ap Some (sym (same_true m r.1 r.3)) }
    by false e = record { place = length ms; at = get_last ms m }

keeps_interned : (m : Message) (ms : List Message) → KeepsAll ms (interned ms m)
keeps_interned (bound i) ms = keeps_added ms (bound i)
keeps_interned (name n) ms = keeps_added ms (name n)
keeps_interned unit ms = keeps_added ms unit
keeps_interned (pair a b) ms = keeps_more (keeps_interned a ms) (keeps_more (keeps_interned b (interned ms a)) (keeps_added (interned (interned ms a) b) (pair a b)))
keeps_interned (in_left a) ms = keeps_more (keeps_interned a ms) (keeps_added (interned ms a) (in_left a))
keeps_interned (in_right a) ms = keeps_more (keeps_interned a ms) (keeps_added (interned ms a) (in_right a))
keeps_interned (enc a b) ms = keeps_more (keeps_interned a ms) (keeps_more (keeps_interned b (interned ms a)) (keeps_added (interned (interned ms a) b) (enc a b)))
keeps_interned (hash a) ms = keeps_more (keeps_interned a ms) (keeps_added (interned ms a) (hash a))

whole_has : (m : Message) (ms : List Message) → Has (interned ms m) m
whole_has (bound i) ms = added_has ms (bound i)
whole_has (name n) ms = added_has ms (name n)
whole_has unit ms = added_has ms unit
whole_has (pair a b) ms = added_has (interned (interned ms a) b) (pair a b)
whole_has (in_left a) ms = added_has (interned ms a) (in_left a)
whole_has (in_right a) ms = added_has (interned ms a) (in_right a)
whole_has (enc a b) ms = added_has (interned (interned ms a) b) (enc a b)
whole_has (hash a) ms = added_has (interned ms a) (hash a)

-- the message and each of its parts stands there
all_parts : {x m : Message} → PartOf x m → (ms : List Message) → Has (interned ms m) x
all_parts {x} whole ms = whole_has x ms
all_parts (of_first {a = a} {b = b} p) ms = has_kept (keeps_more (keeps_interned b (interned ms a)) (keeps_added (interned (interned ms a) b) (pair a b))) (all_parts p ms)
all_parts (of_second {a = a} {b = b} p) ms = has_kept (keeps_added (interned (interned ms a) b) (pair a b)) (all_parts p (interned ms a))
all_parts (of_left {a = a} p) ms = has_kept (keeps_added (interned ms a) (in_left a)) (all_parts p ms)
all_parts (of_right {a = a} p) ms = has_kept (keeps_added (interned ms a) (in_right a)) (all_parts p ms)
all_parts (of_body {a = a} {b = b} p) ms = has_kept (keeps_more (keeps_interned b (interned ms a)) (keeps_added (interned (interned ms a) b) (enc a b))) (all_parts p ms)
all_parts (of_key {a = a} {b = b} p) ms = has_kept (keeps_added (interned (interned ms a) b) (enc a b)) (all_parts p (interned ms a))
all_parts (of_hash {a = a} p) ms = has_kept (keeps_added (interned ms a) (hash a)) (all_parts p ms)

pub interned_adds : (old new : List Message) (m : Message) → new ≡ interned old m → AddsMessages old new (λ x. PartOf x m)
interned_adds old new m e =
    subst (λ ms. AddsMessages old ms (λ x. PartOf x m)) (sym e) record { all = λ x p. all_parts p old; only = λ x h. only_parts m old x h }
