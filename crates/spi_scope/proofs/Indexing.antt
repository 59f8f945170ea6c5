-- A bound name as the number of its binder, and as an index: the process over k names that the nodes of a tree spell.
use Rattle.std.proofs.Common.{◌≡◌, ℕ, suc, ◌+◌, ◌-◌, ◌<◌, ◌≤◌, Bool, true, false, cond, List, [], ◌∷◌, ◌++◌, length, map, refl, sym, ap, ◌∙◌, subst, arith, ⊎_elim}
use Rattle.std.specs.Prelude.{Option, Some, None, IfSome}
use Rattle.std.specs.Str.{bytes_eq}
use Rattle.std.proofs.lemmas.Bool.{cases_lt, lt-ltb, le-ltb}
use Rattle.spi_tree.specs.Trees as t
use Rattle.spi_term.specs.Term.{Message, bound, name, pair, in_left, in_right, enc, hash, ends, checks, many, Effect, Ty, un, unit_ty, pair_ty, sum_ty, key, nonce, Sends, Prefix, Recvs, Serves, Splits, Selects, Decrypts, Checks, Begins, Ends, EndManys, Casts, Freshes, Fork, Branches, Pars, Process, leaf, prefix, fork}
use Rattle.spi_term.specs.Substitution.{effect_map, ty_map, leaf_map}
use Rattle.spi_term.specs.Names.{MessageOver, OfAtom, OfEffect, OfTy, TyOver, ProcessOver}
use Rattle.spi_term.specs.Spelling.{index_message, indexed, flat, numbered, SpellsProcess}
use Rattle.spi_term.specs.Arena.{InScope}
use Rattle.spi_term.proofs.Choices.{if_yes, if_no}
use Rattle.spi_term.proofs.Numbers.{index_low, index_high, index_kept, number_index, over_indexed}
use Rattle.spi_term.proofs.Terms.{over_more_ty, loose_ty}
use Rattle.spi_scope.specs.Scope.{Word, Names, number_of, Abbreviation, Abbreviations, type_of}
use Rattle.spi_scope.specs.Meaning.{name_meant, nested, message_in, messages_in, atom_in, effect_in, known, nested_types, behind, type_in, fields_in, last_in, process_in, process_over}
use Rattle.spi_scope.specs.Points.{with_free, all_names, all_types}
use Rattle.spi_scope.specs.Over.{AreAbbreviationsOver}
use Rattle.spi_tree.specs.declared.tree.SWord.{SWord}
use Rattle.spi_scope.proofs.Tables.{number_below}

pub named_low : (k s x : ℕ) → x < k → name_meant k s (Some x) ≡ name x
named_low k s x h = if_yes (name x) (bound (s - suc x)) (lt-ltb x k h)

named_high : (k s x : ℕ) → k ≤ x → name_meant k s (Some x) ≡ bound (s - suc x)
named_high k s x h = if_no (name x) (bound (s - suc x)) (le-ltb x k h)

known_over : (n : ℕ) (ts : Abbreviations) → AreAbbreviationsOver n ts → (w : Word) → TyOver n (known (type_of ts w))
known_over n [] h w = tt
known_over n (u ∷ ts) h w = by (bytes_eq w u.word) (known_over n ts h.1 w)
  where
    by : (b : Bool) → TyOver n (known (type_of ts w)) → TyOver n (known (cond b (Some u.stands_for) (type_of ts w)))
    by true f = h.0
    by false f = f

-- names below s by their numbers, where s + d are in scope
over_named : (s d : ℕ) (o : Option ℕ) → IfSome o (λ x. x < s + d) → MessageOver s d (name_meant s (s + d) o)
over_named s d None h = tt
over_named s d (Some x) h = ⊎_elim low high (cases_lt x s)
  where
    low : x < s → MessageOver s d (name_meant s (s + d) (Some x))
    low l = subst (MessageOver s d) (sym (named_low s (s + d) x l)) l

    high : s ≤ x → MessageOver s d (name_meant s (s + d) (Some x))
    high l = let b : s + d - suc x < d = omega arith in subst (MessageOver s d) (sym (named_high s (s + d) x l)) b

over_nested : (s d : ℕ) (a : Message) (ms : List Message) → MessageOver s d a → OfEffect (MessageOver s d) (map (λ m. ends m) ms) → MessageOver s d (nested a ms)
over_nested s d a [] h g = h
over_nested s d a (m ∷ ms) h g = (h, over_nested s d m ms g.0 g.1)

mutual
  over_message : (s d : ℕ) (xs : Names) → length xs ≡ s + d → (m : t.Msg) → MessageOver s d (message_in s xs m)
  over_message s d xs e (t.name p w) =
      subst (λ (n : ℕ). MessageOver s d (name_meant s n (number_of xs w.word))) (sym e)
      (over_named s d (number_of xs w.word) (subst (λ (n : ℕ). IfSome (number_of xs w.word) (λ x. x < n)) e (number_below xs w.word)))
  over_message s d xs e (t.unit p) = tt
  over_message s d xs e (t.tuple p a b ms) =
      over_nested s d (message_in s xs a) (message_in s xs b ∷ messages_in s xs ms) (over_message s d xs e a) (over_message s d xs e b, over_messages s d xs e ms)
  over_message s d xs e (t.inl p a) = over_message s d xs e a
  over_message s d xs e (t.inr p a) = over_message s d xs e a
  over_message s d xs e (t.enc p a b) = (over_message s d xs e a, over_message s d xs e b)
  over_message s d xs e (t.hash p a) = over_message s d xs e a
  over_message s d xs e (t.num p i) = tt

  over_messages : (s d : ℕ) (xs : Names) → length xs ≡ s + d → (ms : t.Msgs) → OfEffect (MessageOver s d) (map (λ m. ends m) (messages_in s xs ms))
  over_messages s d xs e t.no_msgs = tt
  over_messages s d xs e (t.more_msgs m ms) = (over_message s d xs e m, over_messages s d xs e ms)

over_atom : (s d : ℕ) (xs : Names) → length xs ≡ s + d → (a : t.Atom) → OfAtom (MessageOver s d) (atom_in s xs a)
over_atom s d xs e (t.ends p m) = over_message s d xs e m
over_atom s d xs e (t.checks p m) = over_message s d xs e m
over_atom s d xs e (t.many p m) = over_message s d xs e m

over_effect : (s d : ℕ) (xs : Names) → length xs ≡ s + d → (es : List t.Atom) → OfEffect (MessageOver s d) (effect_in s xs es)
over_effect s d xs e [] = tt
over_effect s d xs e (a ∷ es) = (over_atom s d xs e a, over_effect s d xs e es)

module _ (n : ℕ) (ts : Abbreviations) (over : AreAbbreviationsOver n ts) (s : ℕ) (few : n ≤ s) where
  over_known : (d : ℕ) (w : Word) → OfTy (MessageOver s) d (known (type_of ts w))
  over_known d w = let a = known (type_of ts w) in loose_ty s 0 d (omega arith) a (over_more_ty n s few 0 a (known_over n ts over w))

  mutual
    over_type : (d : ℕ) (xs : Names) → length xs ≡ s + d → (a : t.Ty) → OfTy (MessageOver s) d (type_in s ts xs a)
    over_type d xs e (t.un p) = tt
    over_type d xs e (t.unit_ty p) = tt
    over_type d xs e (t.tuple_ty p w a fs l) = (over_type d xs e a, over_fields (suc d) (w.word ∷ xs) (omega (arith, e)) fs l (λ d' ys e'. over_last d' ys e' l))
    over_type d xs e (t.sum p a b) = (over_type d xs e a, over_type d xs e b)
    over_type d xs e (t.key p a) = over_type d xs e a
    over_type d xs e (t.nonce p es) = over_effect s d xs e es
    over_type d xs e (t.abbr p w) = over_known d w.word

    over_fields : (d : ℕ) (xs : Names) → length xs ≡ s + d → (fs : t.Fields) (l : t.Last) → ((d' : ℕ) (ys : Names) → length ys ≡ s + d' → OfTy (MessageOver s) d' (last_in s ts ys l)) → OfTy (MessageOver s) d (nested_types (fields_in s ts xs fs) (last_in s ts (behind xs fs) l))
    over_fields d xs e t.no_fields l h = h d xs e
    over_fields d xs e (t.more_fields w a fs) l h = (over_type d xs e a, over_fields (suc d) (w.word ∷ xs) (omega (arith, e)) fs l h)

    over_last : (d : ℕ) (xs : Names) → length xs ≡ s + d → (l : t.Last) → OfTy (MessageOver s) d (last_in s ts xs l)
    over_last d xs e (t.bare a) = over_type d xs e a
    over_last d xs e (t.named w a) = over_type d xs e a

-- what a form holds is in scope
module _ (n : ℕ) (ts : Abbreviations) (over : AreAbbreviationsOver n ts) (s : ℕ) (few : n ≤ s) (xs : Names) (e : s ≡ length xs) where
  at_message : (m : t.Msg) → MessageOver s 0 (message_in (length xs) xs m)
  at_message m = subst (λ (k : ℕ). MessageOver s 0 (message_in k xs m)) e (over_message s 0 xs (omega (arith, e)) m)

  at_type : (a : t.Ty) → OfTy (MessageOver s) 0 (type_in (length xs) ts xs a)
  at_type a = subst (λ (k : ℕ). OfTy (MessageOver s) 0 (type_in k ts xs a)) e (over_type n ts over s few 0 xs (omega (arith, e)) a)

  under_one : (x : Word) (a : t.Ty) → OfTy (MessageOver s) 1 (type_in (length xs) ts (x ∷ xs) a)
  under_one x a = subst (λ (k : ℕ). OfTy (MessageOver s) 1 (type_in k ts (x ∷ xs) a)) e (over_type n ts over s few 1 (x ∷ xs) (omega (arith, e)) a)

in_scope : (n : ℕ) (ts : Abbreviations) → AreAbbreviationsOver n ts → (s : ℕ) → n ≤ s → (xs : Names) → s ≡ length xs → (p : t.Proc) → InScope s (process_in (λ i. i) ts xs p)
in_scope n ts o s f xs e (t.par _ p q) = (tt, (in_scope n ts o (s + 0) (omega arith) xs (omega arith) p, in_scope n ts o (s + 0) (omega arith) xs (omega arith) q))
in_scope n ts o s f xs e (t.group _ p q) = (tt, (in_scope n ts o (s + 0) (omega arith) xs (omega arith) p, in_scope n ts o (s + 0) (omega arith) xs (omega arith) q))
in_scope n ts o s f xs e (t.out _ a b) = (at_message n ts o s f xs e a, at_message n ts o s f xs e b)
in_scope n ts o s f xs e (t.out_then _ a b p) =
    (tt, ((at_message n ts o (s + 0) (omega arith) xs (omega arith) a, at_message n ts o (s + 0) (omega arith) xs (omega arith) b), in_scope n ts o (s + 0) (omega arith) xs (omega arith) p))
in_scope n ts o s f xs e (t.inp _ m x a p) = ((at_message n ts o s f xs e m, at_type n ts o s f xs e a), in_scope n ts o (s + 1) (omega arith) (x.word ∷ xs) (omega arith) p)
in_scope n ts o s f xs e (t.repeat _ m x a p) = ((at_message n ts o s f xs e m, at_type n ts o s f xs e a), in_scope n ts o (s + 1) (omega arith) (x.word ∷ xs) (omega arith) p)
in_scope n ts o s f xs e (t.split _ m x a y c p) =
    ((at_message n ts o s f xs e m, at_type n ts o s f xs e a, under_one n ts o s f xs e x.word c), in_scope n ts o (s + 2) (omega arith) (y.word ∷ x.word ∷ xs) (omega arith) p)
in_scope n ts o s f xs e (t.match _ m x a b y c p) =
    ((at_message n ts o s f xs e m, at_type n ts o s f xs e a, at_message n ts o s f xs e b, under_one n ts o s f xs e x.word c), in_scope n ts o (s + 1) (omega arith) (y.word ∷ xs) (omega arith) p)
in_scope n ts o s f xs e (t.case _ m x a p y c q) =
    ((at_message n ts o s f xs e m, at_type n ts o s f xs e a, at_type n ts o s f xs e c), (in_scope n ts o (s + 1) (omega arith) (x.word ∷ xs) (omega arith) p, in_scope n ts o (s + 1) (omega arith) (y.word ∷ xs) (omega arith) q))
in_scope n ts o s f xs e (t.decrypt _ m x a b p) =
    ((at_message n ts o s f xs e m, at_type n ts o s f xs e a, at_message n ts o s f xs e b), in_scope n ts o (s + 1) (omega arith) (x.word ∷ xs) (omega arith) p)
in_scope n ts o s f xs e (t.check _ a b p) = ((at_message n ts o s f xs e a, at_message n ts o s f xs e b), in_scope n ts o (s + 0) (omega arith) xs (omega arith) p)
in_scope n ts o s f xs e (t.begin _ a p) = (at_message n ts o s f xs e a, in_scope n ts o (s + 0) (omega arith) xs (omega arith) p)
in_scope n ts o s f xs e (t.end _ a p) = (at_message n ts o s f xs e a, in_scope n ts o (s + 0) (omega arith) xs (omega arith) p)
in_scope n ts o s f xs e (t.end_many _ a p) = (at_message n ts o s f xs e a, in_scope n ts o (s + 0) (omega arith) xs (omega arith) p)
in_scope n ts o s f xs e (t.cast _ m x a p) = ((at_message n ts o s f xs e m, at_type n ts o s f xs e a), in_scope n ts o (s + 1) (omega arith) (x.word ∷ xs) (omega arith) p)
in_scope n ts o s f xs e (t.new _ x a p) = (at_type n ts o s f xs e a, in_scope n ts o (s + 1) (omega arith) (x.word ∷ xs) (omega arith) p)
in_scope n ts o s f xs e (t.stop _) = tt

-- abbreviations are over the free names
pub more_over : (n m : ℕ) → n ≤ m → (ts : Abbreviations) → AreAbbreviationsOver n ts → AreAbbreviationsOver m ts
more_over n m h [] o = tt
more_over n m h (u ∷ ts) o = (over_more_ty n m h 0 u.stands_for o.0, more_over n m h ts o.1)

over_push : (n : ℕ) (ts : Abbreviations) (u : Abbreviation) → AreAbbreviationsOver n ts → TyOver n u.stands_for → AreAbbreviationsOver n (ts ++ u ∷ [])
over_push n [] u h f = (f, tt)
over_push n (v ∷ ts) u h f = (h.0, over_push n ts u h.1 f)

free_more : (xs : Names) (ws : List SWord) → length xs ≤ length (with_free xs ws)
free_more xs [] = omega arith
free_more xs (w ∷ ws) = omega (arith, free_more (w.word ∷ xs) ws)

pub all_over : (ts : Abbreviations) (xs : Names) (ds : List t.Declared) → AreAbbreviationsOver (length xs) ts → AreAbbreviationsOver (length (all_names xs ds)) (all_types ts xs ds)
all_over ts xs [] o = o
all_over ts xs (t.free _ w ws ∷ ds) o =
    all_over ts (with_free xs (w ∷ ws)) ds (more_over (length xs) (length (with_free xs (w ∷ ws))) (free_more xs (w ∷ ws)) ts o)
all_over ts xs (t.abbreviated _ w a ∷ ds) o =
    let z : length xs ≡ length xs + 0 = omega arith in
    let l : length xs ≤ length xs = omega arith in
    all_over (ts ++ record { word = w.word; stands_for = type_in (length xs) ts xs a } ∷ []) xs ds (over_push (length xs) ts (record { word = w.word; stands_for = type_in (length xs) ts xs a }) o (over_type (length xs) ts o (length xs) l 0 xs z a))

-- names below k as they are, and the others by the index of their binder
module _ (k s : ℕ) (few : k ≤ s) where
  index_name : (d x : ℕ) → x < s + d → index_message k s d (name_meant s (s + d) (Some x)) ≡ name_meant k (s + d) (Some x)
  index_name d x h = ⊎_elim low high (cases_lt x s)
    where
      low : x < s → index_message k s d (name_meant s (s + d) (Some x)) ≡ name_meant k (s + d) (Some x)
      low l = ap (index_message k s d) (named_low s (s + d) x l) ∙ ⊎_elim free inner (cases_lt x k)
        where
          free : x < k → index_message k s d (name x) ≡ name_meant k (s + d) (Some x)
          free g = index_low k s d x g ∙ sym (named_low k (s + d) x g)

          inner : k ≤ x → index_message k s d (name x) ≡ name_meant k (s + d) (Some x)
          inner g =
              let e : d + (s - suc x) ≡ s + d - suc x = omega arith in
              index_high k s d x g ∙ ap bound e ∙ sym (named_high k (s + d) x g)

      high : s ≤ x → index_message k s d (name_meant s (s + d) (Some x)) ≡ name_meant k (s + d) (Some x)
      high l = ap (index_message k s d) (named_high s (s + d) x l) ∙ sym (named_high k (s + d) x (omega arith))

  index_known : (d r : ℕ) (o : Option ℕ) → r ≡ s + d → IfSome o (λ x. x < r) → index_message k s d (name_meant s r o) ≡ name_meant k r o
  index_known d r None e h = refl
  index_known d r (Some x) e h =
      ap (λ n. index_message k s d (name_meant s n (Some x))) e ∙ index_name d x (omega (arith, h, e)) ∙ ap (λ n. name_meant k n (Some x)) (sym e)

  index_nested : (d : ℕ) (a : Message) (ms : List Message) → index_message k s d (nested a ms) ≡ nested (index_message k s d a) (map (index_message k s d) ms)
  index_nested d a [] = refl
  index_nested d a (m ∷ ms) = ap (pair (index_message k s d a)) (index_nested d m ms)

  mutual
    index_in : (d : ℕ) (xs : Names) → length xs ≡ s + d → (m : t.Msg) → index_message k s d (message_in s xs m) ≡ message_in k xs m
    index_in d xs e (t.name _ w) = index_known d (length xs) (number_of xs w.word) e (number_below xs w.word)
    index_in d xs e (t.unit _) = refl
    index_in d xs e (t.tuple _ a b ms) =
        index_nested d (message_in s xs a) (message_in s xs b ∷ messages_in s xs ms)
        ∙ ap (λ r. nested r (index_message k s d (message_in s xs b) ∷ map (index_message k s d) (messages_in s xs ms))) (index_in d xs e a)
        ∙ ap (λ r. nested (message_in k xs a) (r ∷ map (index_message k s d) (messages_in s xs ms))) (index_in d xs e b)
        ∙ ap (λ r. nested (message_in k xs a) (message_in k xs b ∷ r)) (index_all d xs e ms)
    index_in d xs e (t.inl _ a) = ap in_left (index_in d xs e a)
    index_in d xs e (t.inr _ a) = ap in_right (index_in d xs e a)
    index_in d xs e (t.enc _ a b) =
        ap (λ r. enc r (index_message k s d (message_in s xs b))) (index_in d xs e a) ∙ ap (enc (message_in k xs a)) (index_in d xs e b)
    index_in d xs e (t.hash _ a) = ap hash (index_in d xs e a)
    index_in d xs e (t.num _ i) = refl

    index_all : (d : ℕ) (xs : Names) → length xs ≡ s + d → (ms : t.Msgs) → map (index_message k s d) (messages_in s xs ms) ≡ messages_in k xs ms
    index_all d xs e t.no_msgs = refl
    index_all d xs e (t.more_msgs m ms) =
        ap (λ r. r ∷ map (index_message k s d) (messages_in s xs ms)) (index_in d xs e m) ∙ ap (λ r. message_in k xs m ∷ r) (index_all d xs e ms)

  index_effect : (d : ℕ) (xs : Names) → length xs ≡ s + d → (es : List t.Atom) → effect_map (index_message k s d) (effect_in s xs es) ≡ effect_in k xs es
  index_effect d xs e [] = refl
  index_effect d xs e (t.ends _ m ∷ es) = ap (λ r. ends r ∷ effect_map (index_message k s d) (effect_in s xs es)) (index_in d xs e m) ∙ ap (λ r. ends (message_in k xs m) ∷ r) (index_effect d xs e es)
  index_effect d xs e (t.checks _ m ∷ es) = ap (λ r. checks r ∷ effect_map (index_message k s d) (effect_in s xs es)) (index_in d xs e m) ∙ ap (λ r. checks (message_in k xs m) ∷ r) (index_effect d xs e es)
  index_effect d xs e (t.many _ m ∷ es) = ap (λ r. many r ∷ effect_map (index_message k s d) (effect_in s xs es)) (index_in d xs e m) ∙ ap (λ r. many (message_in k xs m) ∷ r) (index_effect d xs e es)

  -- a type over k names stays as it is
  still_effect : (d j : ℕ) (es : Effect) → OfEffect (MessageOver k j) es → effect_map (index_message k s d) es ≡ es
  still_effect d j [] h = refl
  still_effect d j (ends m ∷ es) h = rw (index_kept k s d j m h.0, still_effect d j es h.1)
  still_effect d j (checks m ∷ es) h = rw (index_kept k s d j m h.0, still_effect d j es h.1)
  still_effect d j (many m ∷ es) h = rw (index_kept k s d j m h.0, still_effect d j es h.1)

  still_ty : (d j : ℕ) (a : Ty) → OfTy (MessageOver k) j a → ty_map (index_message k s) d a ≡ a
  still_ty d j un h = refl
  still_ty d j unit_ty h = refl
  still_ty d j (pair_ty a b) h = ap (λ r. pair_ty r (ty_map (index_message k s) (suc d) b)) (still_ty d j a h.0) ∙ ap (pair_ty a) (still_ty (suc d) (suc j) b h.1)
  still_ty d j (sum_ty a b) h = ap (λ r. sum_ty r (ty_map (index_message k s) d b)) (still_ty d j a h.0) ∙ ap (sum_ty a) (still_ty d j b h.1)
  still_ty d j (key a) h = ap key (still_ty d j a h)
  still_ty d j (nonce es) h = ap nonce (still_effect d j es h)

  module _ (ts : Abbreviations) (over : AreAbbreviationsOver k ts) where
    mutual
      index_type : (d : ℕ) (xs : Names) → length xs ≡ s + d → (a : t.Ty) → ty_map (index_message k s) d (type_in s ts xs a) ≡ type_in k ts xs a
      index_type d xs e (t.un _) = refl
      index_type d xs e (t.unit_ty _) = refl
      index_type d xs e (t.tuple_ty _ w a fs l) =
          ap (λ r. pair_ty r (ty_map (index_message k s) (suc d) (nested_types (fields_in s ts (w.word ∷ xs) fs) (last_in s ts (behind (w.word ∷ xs) fs) l)))) (index_type d xs e a)
          ∙ ap (pair_ty (type_in k ts xs a)) (index_fields (suc d) (w.word ∷ xs) (omega (arith, e)) fs l (λ d' ys e'. index_last d' ys e' l))
      index_type d xs e (t.sum _ a b) = ap (λ r. sum_ty r (ty_map (index_message k s) d (type_in s ts xs b))) (index_type d xs e a) ∙ ap (sum_ty (type_in k ts xs a)) (index_type d xs e b)
      index_type d xs e (t.key _ a) = ap key (index_type d xs e a)
      index_type d xs e (t.nonce _ es) = ap nonce (index_effect d xs e es)
      index_type d xs e (t.abbr _ w) = still_ty d 0 (known (type_of ts w.word)) (known_over k ts over w.word)

      index_fields : (d : ℕ) (xs : Names) → length xs ≡ s + d → (fs : t.Fields) (l : t.Last) → ((d' : ℕ) (ys : Names) → length ys ≡ s + d' → ty_map (index_message k s) d' (last_in s ts ys l) ≡ last_in k ts ys l) → ty_map (index_message k s) d (nested_types (fields_in s ts xs fs) (last_in s ts (behind xs fs) l)) ≡ nested_types (fields_in k ts xs fs) (last_in k ts (behind xs fs) l)
      index_fields d xs e t.no_fields l h = h d xs e
      index_fields d xs e (t.more_fields w a fs) l h =
          ap (λ r. pair_ty r (ty_map (index_message k s) (suc d) (nested_types (fields_in s ts (w.word ∷ xs) fs) (last_in s ts (behind (w.word ∷ xs) fs) l)))) (index_type d xs e a)
          ∙ ap (pair_ty (type_in k ts xs a)) (index_fields (suc d) (w.word ∷ xs) (omega (arith, e)) fs l h)

      index_last : (d : ℕ) (xs : Names) → length xs ≡ s + d → (l : t.Last) → ty_map (index_message k s) d (last_in s ts xs l) ≡ last_in k ts xs l
      index_last d xs e (t.bare a) = index_type d xs e a
      index_last d xs e (t.named w a) = index_type d xs e a

-- the same of what a form holds
module _ (k s : ℕ) (few : k ≤ s) (ts : Abbreviations) (over : AreAbbreviationsOver k ts) (xs : Names) (e : s ≡ length xs) where
  one_message : (m : t.Msg) → index_message k s 0 (message_in (length xs) xs m) ≡ message_in k xs m
  one_message m = ap (λ (i : ℕ). index_message k s 0 (message_in i xs m)) (sym e) ∙ index_in k s few 0 xs (omega (arith, e)) m

  one_type : (a : t.Ty) → ty_map (index_message k s) 0 (type_in (length xs) ts xs a) ≡ type_in k ts xs a
  one_type a = ap (λ (i : ℕ). ty_map (index_message k s) 0 (type_in i ts xs a)) (sym e) ∙ index_type k s few ts over 0 xs (omega (arith, e)) a

  inner_type : (x : Word) (a : t.Ty) → ty_map (index_message k s) 1 (type_in (length xs) ts (x ∷ xs) a) ≡ type_in k ts (x ∷ xs) a
  inner_type x a = ap (λ (i : ℕ). ty_map (index_message k s) 1 (type_in i ts (x ∷ xs) a)) (sym e) ∙ index_type k s few ts over 1 (x ∷ xs) (omega (arith, e)) a

  one_send : (m n : t.Msg) → leaf_map (index_message k s) 0 (Sends (message_in (length xs) xs m) (message_in (length xs) xs n)) ≡ Sends (message_in k xs m) (message_in k xs n)
  one_send m n = ap (λ r. Sends r (index_message k s 0 (message_in (length xs) xs n))) (one_message m) ∙ ap (Sends (message_in k xs m)) (one_message n)

  two_parts : {A B C : Type 0} (f : A → B → C) (a a' : A) (b b' : B) → a ≡ a' → b ≡ b' → f a b ≡ f a' b'
  two_parts f a a' b b' g h = ap (λ r. f r b) g ∙ ap (f a') h

  three_parts : {A B C D : Type 0} (f : A → B → C → D) (a a' : A) (b b' : B) (c c' : C) → a ≡ a' → b ≡ b' → c ≡ c' → f a b c ≡ f a' b' c'
  three_parts f a a' b b' c c' g h i = ap (λ r. f r b c) g ∙ ap (λ r. f a' r c) h ∙ ap (f a' b') i

  four_parts : (a a' : Message) (b b' : Ty) (c c' : Message) (d d' : Ty) → a ≡ a' → b ≡ b' → c ≡ c' → d ≡ d' → Selects a b c d ≡ Selects a' b' c' d'
  four_parts a a' b b' c c' d d' g h i j = ap (λ r. Selects r b c d) g ∙ ap (λ r. Selects a' r c d) h ∙ ap (λ r. Selects a' b' r d) i ∙ ap (Selects a' b' c') j

two : (f f' : Fork) (p p' q q' : Process) → f ≡ f' → p ≡ p' → q ≡ q' → fork f p q ≡ fork f' p' q'
two f f' p p' q q' e g h = ap (λ r. fork r p q) e ∙ ap (λ r. fork f' r q) g ∙ ap (fork f' p') h

after : (s s' : Prefix) (p p' : Process) → s ≡ s' → p ≡ p' → prefix s p ≡ prefix s' p'
after s s' p p' g h = ap (λ r. prefix r p) g ∙ ap (prefix s') h

index_process : (k s : ℕ) → k ≤ s → (ts : Abbreviations) → AreAbbreviationsOver k ts → (xs : Names) → s ≡ length xs → (p : t.Proc) → indexed k s (process_in (λ i. i) ts xs p) ≡ process_in (λ i. k) ts xs p
index_process k s f ts o xs e (t.par _ p q) = two Pars Pars _ _ _ _ refl (index_process k (s + 0) (omega arith) ts o xs (omega arith) p) (index_process k (s + 0) (omega arith) ts o xs (omega arith) q)
index_process k s f ts o xs e (t.group _ p q) = two Pars Pars _ _ _ _ refl (index_process k (s + 0) (omega arith) ts o xs (omega arith) p) (index_process k (s + 0) (omega arith) ts o xs (omega arith) q)
index_process k s f ts o xs e (t.out _ a b) = ap leaf (one_send k s f ts o xs e a b)
index_process k s f ts o xs e (t.out_then _ a b p) =
    two Pars Pars _ _ _ _ refl (ap leaf (one_send k (s + 0) (omega arith) ts o xs (omega arith) a b)) (index_process k (s + 0) (omega arith) ts o xs (omega arith) p)
index_process k s f ts o xs e (t.inp _ m x a p) =
    after _ _ _ _ (two_parts k s f ts o xs e Recvs _ _ _ _ (one_message k s f ts o xs e m) (one_type k s f ts o xs e a)) (index_process k (s + 1) (omega arith) ts o (x.word ∷ xs) (omega arith) p)
index_process k s f ts o xs e (t.repeat _ m x a p) =
    after _ _ _ _ (two_parts k s f ts o xs e Serves _ _ _ _ (one_message k s f ts o xs e m) (one_type k s f ts o xs e a)) (index_process k (s + 1) (omega arith) ts o (x.word ∷ xs) (omega arith) p)
index_process k s f ts o xs e (t.split _ m x a y c p) =
    after _ _ _ _ (three_parts k s f ts o xs e Splits _ _ _ _ _ _ (one_message k s f ts o xs e m) (one_type k s f ts o xs e a) (inner_type k s f ts o xs e x.word c))
    (index_process k (s + 2) (omega arith) ts o (y.word ∷ x.word ∷ xs) (omega arith) p)
index_process k s f ts o xs e (t.match _ m x a b y c p) =
    after _ _ _ _ (four_parts k s f ts o xs e _ _ _ _ _ _ _ _ (one_message k s f ts o xs e m) (one_type k s f ts o xs e a) (one_message k s f ts o xs e b) (inner_type k s f ts o xs e x.word c))
    (index_process k (s + 1) (omega arith) ts o (y.word ∷ xs) (omega arith) p)
index_process k s f ts o xs e (t.case _ m x a p y c q) =
    two _ _ _ _ _ _ (three_parts k s f ts o xs e Branches _ _ _ _ _ _ (one_message k s f ts o xs e m) (one_type k s f ts o xs e a) (one_type k s f ts o xs e c))
    (index_process k (s + 1) (omega arith) ts o (x.word ∷ xs) (omega arith) p) (index_process k (s + 1) (omega arith) ts o (y.word ∷ xs) (omega arith) q)
index_process k s f ts o xs e (t.decrypt _ m x a b p) =
    after _ _ _ _ (three_parts k s f ts o xs e Decrypts _ _ _ _ _ _ (one_message k s f ts o xs e m) (one_type k s f ts o xs e a) (one_message k s f ts o xs e b))
    (index_process k (s + 1) (omega arith) ts o (x.word ∷ xs) (omega arith) p)
index_process k s f ts o xs e (t.check _ a b p) =
    after _ _ _ _ (two_parts k s f ts o xs e Checks _ _ _ _ (one_message k s f ts o xs e a) (one_message k s f ts o xs e b)) (index_process k (s + 0) (omega arith) ts o xs (omega arith) p)
index_process k s f ts o xs e (t.begin _ a p) = after _ _ _ _ (ap Begins (one_message k s f ts o xs e a)) (index_process k (s + 0) (omega arith) ts o xs (omega arith) p)
index_process k s f ts o xs e (t.end _ a p) = after _ _ _ _ (ap Ends (one_message k s f ts o xs e a)) (index_process k (s + 0) (omega arith) ts o xs (omega arith) p)
index_process k s f ts o xs e (t.end_many _ a p) = after _ _ _ _ (ap EndManys (one_message k s f ts o xs e a)) (index_process k (s + 0) (omega arith) ts o xs (omega arith) p)
index_process k s f ts o xs e (t.cast _ m x a p) =
    after _ _ _ _ (two_parts k s f ts o xs e Casts _ _ _ _ (one_message k s f ts o xs e m) (one_type k s f ts o xs e a)) (index_process k (s + 1) (omega arith) ts o (x.word ∷ xs) (omega arith) p)
index_process k s f ts o xs e (t.new _ x a p) = after _ _ _ _ (ap Freshes (one_type k s f ts o xs e a)) (index_process k (s + 1) (omega arith) ts o (x.word ∷ xs) (omega arith) p)
index_process k s f ts o xs e (t.stop _) = refl

-- the nodes of a process over the names in scope spell it
pub nodes_spell : (ts : Abbreviations) (xs : Names) → AreAbbreviationsOver (length xs) ts → (p : t.Proc) → SpellsProcess (length xs) (process_over (length xs) ts xs p) (flat 0 (length xs) (process_in (λ i. i) ts xs p))
nodes_spell ts xs o p =
    let k : ℕ = length xs in
    let q : Process = process_in (λ i. i) ts xs p in
    let z : k ≡ k + 0 = omega arith in
    let l : k ≤ k = omega arith in
    let e : indexed k k q ≡ process_over k ts xs p = index_process k k l ts o xs refl p in
    let scoped : InScope k q = in_scope k ts o k l xs refl p in (
      subst (ProcessOver k) e (over_indexed k 0 k z q scoped),
      ap (λ (r : Process). flat 0 k (numbered [] k r)) (sym e) ∙ ap (flat 0 k) (number_index k 0 k z q scoped),
    )
