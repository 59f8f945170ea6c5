-- The meaning of a process over the free names holds it.
use Rattle.std.proofs.Common.{◌≡◌, ℕ, suc, ◌+◌, ◌-◌, ◌<◌, Bool, true, false, [], ◌∷◌, ◌++◌, length, refl, sym, ap, ◌∙◌, subst, arith, Option, Some, None, length-append}
use Rattle.std.specs.Prelude.{if◌then◌else◌, nat_lt}
use Rattle.std.specs.Str.{bytes_eq}
use Rattle.spi_tree.specs.Trees as t
use Rattle.spi_term.specs.Term.{Message, bound, name, unit, in_left, in_right, enc, hash, send, recv, serve, split, select, decrypt, check, begin, end, end_many, cast, branch, par}
use Rattle.spi_replay.specs.Holding.{IsClosed}
use Rattle.spi_scope.specs.Scope.{Word, Names, number_of, Abbreviations}
use Rattle.spi_scope.specs.Meaning.{name_meant, nested, message_in, messages_in, type_in, process_in}
use Rattle.spi_scope.proofs.Indexing.{named_low}
use Rattle.spi_honest.specs.Reading.{at_word, word_in, valued, all_valued, names_numbered}
use Rattle.spi_honest.specs.Holds.{deeper, index_of, or_bound_at, under_names, Holds, AreClosed}
use Rattle.spi_honest.proofs.Held.{IsWithinSome, index_within}
use Rattle.spi_term.specs.Substitution.{or_unit}

mutual
  pub message_valued : (k : ℕ) (xs : Names) (m : t.Msg) → message_in k xs m ≡ valued (λ w. name_meant k (length xs) (number_of xs w)) m
  message_valued k xs (t.name s w) = refl
  message_valued k xs (t.unit s) = refl
  message_valued k xs (t.tuple s a b ms) = λ i. nested (message_valued k xs a i) (message_valued k xs b i ∷ messages_valued k xs ms i)
  message_valued k xs (t.inl s a) = ap in_left (message_valued k xs a)
  message_valued k xs (t.inr s a) = ap in_right (message_valued k xs a)
  message_valued k xs (t.enc s a b) = λ i. enc (message_valued k xs a i) (message_valued k xs b i)
  message_valued k xs (t.hash s a) = ap hash (message_valued k xs a)
  message_valued k xs (t.num s i) = refl

  messages_valued : (k : ℕ) (xs : Names) (ms : t.Msgs) → messages_in k xs ms ≡ all_valued (λ w. name_meant k (length xs) (number_of xs w)) ms
  messages_valued k xs t.no_msgs = refl
  messages_valued k xs (t.more_msgs m ms) = λ i. message_valued k xs m i ∷ messages_valued k xs ms i

-- the number of a name behind binders
abbrev pub or_number : Option ℕ → ℕ → Option ℕ → Option ℕ
or_number None s o = o
or_number (Some i) s o = Some (s - suc i)

number_if : (b : Bool) (o : Option ℕ) (n s : ℕ) (x y : Option ℕ) → n + 1 ≡ s → y ≡ or_number o n x → (if b then Some n else y) ≡ or_number (if b then Some 0 else deeper o) s x
number_if true o n s x y e h = ap Some (omega arith)
number_if false None n s x y e h = h
number_if false (Some i) n s x y e h = h ∙ ap Some (omega arith)

pub number_behind : (bs xs : Names) (w : Word) → number_of (bs ++ xs) w ≡ or_number (index_of bs w) (length (bs ++ xs)) (number_of xs w)
number_behind [] xs w = refl
number_behind (b ∷ bs) xs w = number_if (bytes_eq b w) (index_of bs w) (length (bs ++ xs)) (length (b ∷ (bs ++ xs))) (number_of xs w) (number_of (bs ++ xs) w) (omega arith) (number_behind bs xs w)

if_below : (b : Bool) (o : Option ℕ) (n : ℕ) → IsWithinSome n o → IsWithinSome (suc n) (if b then Some n else o)
if_below true o n h = omega arith
if_below false None n h = tt
if_below false (Some i) n h = omega arith

pub number_below : (xs : Names) (w : Word) → IsWithinSome (length xs) (number_of xs w)
number_below [] w = tt
number_below (x ∷ xs) w = if_below (bytes_eq x w) (number_of xs w) (length xs) (number_below xs w)

-- its name
abbrev pub or_free_name : Option ℕ → Message
or_free_name None = unit
or_free_name (Some i) = name i

name_if : (b : Bool) (n : ℕ) (o : Option ℕ) (m : Option Message) → or_unit m ≡ or_free_name o → or_unit (if b then Some (name n) else m) ≡ or_free_name (if b then Some n else o)
name_if true n o m e = refl
name_if false n o m e = e

pub word_numbered : (xs : Names) (w : Word) → word_in (names_numbered xs) w ≡ or_free_name (number_of xs w)
word_numbered [] w = refl
word_numbered (x ∷ xs) w = name_if (bytes_eq x w) (length xs) (number_of xs w) (at_word (names_numbered xs) w) (word_numbered xs w)

high_named : (k s i : ℕ) → i + k < s → name_meant k s (Some (s - suc i)) ≡ bound i
high_named k s i h =
    let e : nat_lt (s - suc i) k ≡ false = Rattle.std.proofs.lemmas.Bool.le-ltb (s - suc i) k (omega arith) in
    let f : s - suc (s - suc i) ≡ i = omega arith in
    rw e (ap bound f)

named_behind : (k s : ℕ) (o x : Option ℕ) (n : ℕ) → s ≡ n + k → IsWithinSome n o → IsWithinSome k x → name_meant k s (or_number o s x) ≡ or_bound_at o (or_free_name x)
named_behind k s None None n e h g = refl
named_behind k s None (Some i) n e h g = named_low k s i g
named_behind k s (Some i) x n e h g = high_named k s i (omega arith)

pub named_under : (k : ℕ) (bs xs : Names) (w : Word) → k ≡ length xs → name_meant k (length (bs ++ xs)) (number_of (bs ++ xs) w) ≡ under_names bs (word_in (names_numbered xs)) w
named_under k bs xs w e =
    ap (name_meant k (length (bs ++ xs))) (number_behind bs xs w)
    ∙ named_behind k (length (bs ++ xs)) (index_of bs w) (number_of xs w) (length bs) (omega (arith, length-append bs xs)) (index_within bs w) (subst (λ n. IsWithinSome n (number_of xs w)) (sym e) (number_below xs w))
    ∙ ap (or_bound_at (index_of bs w)) (sym (word_numbered xs w))

pub message_under : (k : ℕ) (bs xs : Names) → k ≡ length xs → (m : t.Msg) → message_in k (bs ++ xs) m ≡ valued (under_names bs (word_in (names_numbered xs))) m
message_under k bs xs e m = message_valued k (bs ++ xs) m ∙ (λ i. valued (λ w. named_under k bs xs w e i) m)

module _ (k : ℕ) (ts : Abbreviations) (xs : Names) (e : k ≡ length xs) where
  pub holds_meaning : (p : t.Proc) (bs : Names) → Holds p bs (word_in (names_numbered xs)) (process_in (λ s. k) ts (bs ++ xs) p)
  holds_meaning (t.par s p q) bs = (_, _, refl, holds_meaning p bs, holds_meaning q bs)
  holds_meaning (t.group s p q) bs = (_, _, refl, holds_meaning p bs, holds_meaning q bs)
  holds_meaning (t.out s m n) bs = λ i. send (message_under k bs xs e m i) (message_under k bs xs e n i)
  holds_meaning (t.out_then s m n p) bs = (_, (λ i. par (send (message_under k bs xs e m i) (message_under k bs xs e n i)) (process_in (λ s. k) ts (bs ++ xs) p)), holds_meaning p bs)
  holds_meaning (t.inp s m w b p) bs = (type_in k ts (bs ++ xs) b, process_in (λ s. k) ts (w.word ∷ (bs ++ xs)) p, (λ i. recv (message_under k bs xs e m i) (type_in k ts (bs ++ xs) b) (process_in (λ s. k) ts (w.word ∷ (bs ++ xs)) p)), holds_meaning p (w.word ∷ bs))
  holds_meaning (t.repeat s m w b p) bs = (type_in k ts (bs ++ xs) b, process_in (λ s. k) ts (w.word ∷ (bs ++ xs)) p, (λ i. serve (message_under k bs xs e m i) (type_in k ts (bs ++ xs) b) (process_in (λ s. k) ts (w.word ∷ (bs ++ xs)) p)), holds_meaning p (w.word ∷ bs))
  holds_meaning (t.split s m w b y d p) bs =
      (type_in k ts (bs ++ xs) b, type_in k ts (w.word ∷ (bs ++ xs)) d, process_in (λ s. k) ts (y.word ∷ w.word ∷ (bs ++ xs)) p, (λ i. split (message_under k bs xs e m i) (type_in k ts (bs ++ xs) b) (type_in k ts (w.word ∷ (bs ++ xs)) d) (process_in (λ s. k) ts (y.word ∷ w.word ∷ (bs ++ xs)) p)), holds_meaning p (y.word ∷ w.word ∷ bs))
  holds_meaning (t.match s m w b n y d p) bs =
      (type_in k ts (bs ++ xs) b, type_in k ts (w.word ∷ (bs ++ xs)) d, process_in (λ s. k) ts (y.word ∷ (bs ++ xs)) p, (λ i. select (message_under k bs xs e m i) (type_in k ts (bs ++ xs) b) (message_under k bs xs e n i) (type_in k ts (w.word ∷ (bs ++ xs)) d) (process_in (λ s. k) ts (y.word ∷ (bs ++ xs)) p)), holds_meaning p (y.word ∷ bs))
  holds_meaning (t.case s m w b p y d q) bs =
      (type_in k ts (bs ++ xs) b, type_in k ts (bs ++ xs) d, process_in (λ s. k) ts (w.word ∷ (bs ++ xs)) p, process_in (λ s. k) ts (y.word ∷ (bs ++ xs)) q, (λ i. branch (message_under k bs xs e m i) (type_in k ts (bs ++ xs) b) (process_in (λ s. k) ts (w.word ∷ (bs ++ xs)) p) (type_in k ts (bs ++ xs) d) (process_in (λ s. k) ts (y.word ∷ (bs ++ xs)) q)), holds_meaning p (w.word ∷ bs), holds_meaning q (y.word ∷ bs))
  holds_meaning (t.decrypt s m w b n p) bs =
      (type_in k ts (bs ++ xs) b, process_in (λ s. k) ts (w.word ∷ (bs ++ xs)) p, (λ i. decrypt (message_under k bs xs e m i) (type_in k ts (bs ++ xs) b) (message_under k bs xs e n i) (process_in (λ s. k) ts (w.word ∷ (bs ++ xs)) p)), holds_meaning p (w.word ∷ bs))
  holds_meaning (t.check s m n p) bs = (process_in (λ s. k) ts (bs ++ xs) p, (λ i. check (message_under k bs xs e m i) (message_under k bs xs e n i) (process_in (λ s. k) ts (bs ++ xs) p)), holds_meaning p bs)
  holds_meaning (t.begin s m p) bs = (process_in (λ s. k) ts (bs ++ xs) p, (λ i. begin (message_under k bs xs e m i) (process_in (λ s. k) ts (bs ++ xs) p)), holds_meaning p bs)
  holds_meaning (t.end s m p) bs = (process_in (λ s. k) ts (bs ++ xs) p, (λ i. end (message_under k bs xs e m i) (process_in (λ s. k) ts (bs ++ xs) p)), holds_meaning p bs)
  holds_meaning (t.end_many s m p) bs = (process_in (λ s. k) ts (bs ++ xs) p, (λ i. end_many (message_under k bs xs e m i) (process_in (λ s. k) ts (bs ++ xs) p)), holds_meaning p bs)
  holds_meaning (t.cast s m w b p) bs = (type_in k ts (bs ++ xs) b, process_in (λ s. k) ts (w.word ∷ (bs ++ xs)) p, (λ i. cast (message_under k bs xs e m i) (type_in k ts (bs ++ xs) b) (process_in (λ s. k) ts (w.word ∷ (bs ++ xs)) p)), holds_meaning p (w.word ∷ bs))
  holds_meaning (t.new s w b p) bs = (type_in k ts (bs ++ xs) b, process_in (λ s. k) ts (w.word ∷ (bs ++ xs)) p, refl, holds_meaning p (w.word ∷ bs))
  holds_meaning (t.stop s) bs = refl

-- names are closed
or_name_closed : (o : Option ℕ) → IsClosed (or_free_name o)
or_name_closed None = tt
or_name_closed (Some i) = tt

pub names_closed : (xs : Names) → AreClosed (word_in (names_numbered xs))
names_closed xs = record { each = λ w. subst IsClosed (sym (word_numbered xs w)) (or_name_closed (number_of xs w)) }
