-- The texts of processes write the tokens of their trees.
use Rattle.std.proofs.Common.{◌≡◌, ℕ, suc, ◌+◌, ◌<◌, ◌≤◌, Bool, true, false, IsTrue, if◌then◌else◌, List, ◌∷◌, ◌++◌, codes, refl, arith}
use Rattle.spi_lex.specs.declared.token.Kind.TheVariants as kinds
use Rattle.spi_lex.specs.declared.token.Reserved.TheVariants as word
use Rattle.spi_lex.specs.declared.token.Mark.TheVariants as mark
use Rattle.spi_lex.specs.Words.{words_of}
use Rattle.spi_lex.specs.Writing.{is_apart, IsKind}
use Rattle.spi_tree.specs.Trees as t
use Rattle.spi_tree.specs.Pieces.{Piece, Place, below, beside_place, a_reserved, kinds_in, msg_pieces, named_pieces, binder_pieces, proc_pieces, ends}
use Rattle.spi_term.specs.Term.{Message, Ty, Leaf, Sends, Stops, Prefix, Recvs, Serves, Splits, Selects, Decrypts, Checks, Begins, Ends, EndManys, Casts, Freshes, Branches, Pars, Process, leaf, prefix, fork, binds}
use Rattle.spi_term.specs.Names.{MessageOver, OfTy, OfLeaf, OfPrefix, OfProcess}
use Rattle.spi_term.specs.Spelling.{ty_nodes}
use Rattle.spi_term.proofs.Sizes.{some_message}
use Rattle.spi_gen.specs.Handshake.{word}
use Rattle.spi_show.specs.Terms.{message_text, typed_text, type_text}
use Rattle.spi_show.specs.Processes.{leaf_text, prefix_text, left_text, right_text, Standing, alone, sequel, is_output, process_text}
use Rattle.spi_spell.proofs.Printed.{spelled_name, message_tree, type_tree, leaf_tree, prefix_tree, then_tree, process_tree}
use Rattle.spi_spell.proofs.Printed as printed
use Rattle.spi_spell.proofs.Printable.{MessageFits, TyFits, LeafFits, PrefixFits, ProcessFits, prefix_nodes, process_nodes}
use Rattle.spi_spell.proofs.Counts.{binds_few}
use Rattle.spi_spell.proofs.Prints as prints
use Rattle.spi_spell.proofs.Prints.{Prints}
use Rattle.spi_spell.proofs.PrintsTerms.{PrintsInScope}
use Rattle.spi_spell.proofs.PrintsTypes as types
use Rattle.spi_spell.proofs.PrintsTypes.{inner}
use Rattle.spi_tree.specs.Trees.{nowhere}

behind : {top k d n : ℕ} (b : ℕ) → PrintsInScope top k d n → n + b ≤ top → PrintsInScope top k (d + b) (n + b)
behind b s few = (let low = s.bound in record { free = s.free; bound = omega arith; all = few })

same : {top k d n : ℕ} → PrintsInScope top k d n → PrintsInScope top k (d + 0) n
same s = (let low = s.bound in record { free = s.free; bound = omega arith; all = s.all })

module _ (later : Bool) (top : ℕ) (spell : ℕ → List ℕ) (fit : (i : ℕ) → i < top → IsKind (words_of later) (kinds.Word (spell i))) where
  -- a message
  message : {k d n : ℕ} (m : Message) → PrintsInScope top k d n → MessageOver k d m → MessageFits later m → (r : List Piece) (more : List ℕ)
      → IsTrue (is_apart more) → Prints later (kinds_in r) more → Prints later (kinds_in (msg_pieces 1 (message_tree (spelled_name spell) n m) r)) (message_text spell n m ++ more)
  message {k = k} {d = d} {n = n} m in_scope o v r more apart p = types.message later top spell fit k d n 1 m in_scope o v.1 r more apart p

  -- the name with number x and its type, where n names are in scope
  named : {k d n : ℕ} (x : ℕ) (a : Ty) → x < top → PrintsInScope top k d n → n + ty_nodes a ≤ top → OfTy (MessageOver k) d a → TyFits later a → (r : List Piece) (more : List ℕ)
      → IsTrue (is_apart more) → Prints later (kinds_in r) more
      → Prints later (kinds_in (named_pieces (word (spell x)) (type_tree spell n a) r)) (typed_text spell x (type_text spell n a) ++ more)
  named {k = k} {d = d} {n = n} x a low in_scope few o v r more apart p =
      types.typed later top spell fit x (type_text spell n a) more low (types.type later top spell fit k d n 1 a in_scope few o v.1 r more apart p)

  -- a binder, after which a process follows
  binder : {k d n : ℕ} (x : ℕ) (a : Ty) → x < top → PrintsInScope top k d n → n + ty_nodes a ≤ top → OfTy (MessageOver k) d a → TyFits later a → (r : List Piece) (more : List ℕ) → Prints later (kinds_in r) more
      → Prints later (kinds_in (binder_pieces (word (spell x)) (type_tree spell n a) r)) (codes "(" ++ ((typed_text spell x (type_text spell n a) ++ codes "); ") ++ more))
  binder {n = n} x a low in_scope few o v r more p =
      prints.mark mark.ParenOpen (prints.part (typed_text spell x (type_text spell n a)) _ more (named x a low in_scope few o v _ _ refl (prints.mark mark.ParenClose (prints.mark mark.Semicolon (prints.space p)))))

  pub one_prefix : (k d n : ℕ) (at : Place) (s : Prefix) (q : t.Proc) → PrintsInScope top k d n → n + prefix_nodes s ≤ top → OfPrefix (MessageOver k) d s → PrefixFits later s
      → (r : List Piece) (more : List ℕ) → Prints later (kinds_in (proc_pieces (below at) q (ends nowhere r))) more
      → Prints later (kinds_in (proc_pieces at (prefix_tree spell n s q) r)) (prefix_text spell n s ++ more)
  one_prefix k d n at (Recvs m a) q scope few o v r more p =
      prints.keyword word.Inp refl refl (prints.space (prints.part (message_text spell n m) _ more (message m scope o.0 v.0 _ _ refl (prints.space
      (binder n a (omega arith) scope (omega arith) o.1 v.1 _ more p)))))
  one_prefix k d n at (Serves m a) q scope few o v r more p =
      prints.keyword word.Repeat refl refl (prints.space (prints.keyword word.Inp refl refl (prints.space (prints.part (message_text spell n m) _ more (message m scope o.0 v.0 _ _ refl (prints.space
      (binder n a (omega arith) scope (omega arith) o.1 v.1 _ more p)))))))
  one_prefix k d n at (Splits m a b) q scope few o v r more p =
      prints.keyword word.Split refl refl (prints.space (prints.part (message_text spell n m) _ more (message m scope o.0 v.0 _ _ refl (prints.space (prints.keyword word.Is refl refl (prints.space (prints.mark mark.ParenOpen
      (prints.part (typed_text spell n (type_text spell n a)) _ more (named n a (omega arith) scope (omega arith) o.1 v.1 _ _ refl (prints.mark mark.Comma (prints.space
      (prints.part (typed_text spell (suc n) (type_text spell (suc n) b)) _ more (named (suc n) b (omega (arith, some_message m)) (inner scope (omega arith)) (omega (arith, some_message m)) o.2 v.2 _ _ refl
      (prints.mark mark.ParenClose (prints.mark mark.Semicolon (prints.space p))))))))))))))))
  one_prefix k d n at (Selects m a j b) q scope few o v r more p =
      prints.keyword word.Match refl refl (prints.space (prints.part (message_text spell n m) _ more (message m scope o.0 v.0 _ _ refl (prints.space (prints.keyword word.Is refl refl (prints.space (prints.mark mark.ParenOpen
      (prints.part (typed_text spell n (type_text spell n a)) _ more (named n a (omega arith) scope (omega arith) o.1 v.1 _ _ refl (prints.space (prints.mark mark.Equals (prints.space
      (prints.part (message_text spell n j) _ more (message j scope o.2 v.2 _ _ refl (prints.mark mark.Comma (prints.space
      (prints.part (typed_text spell n (type_text spell (suc n) b)) _ more (named n b (omega arith) (inner scope (omega arith)) (omega arith) o.3 v.3 _ _ refl
      (prints.mark mark.ParenClose (prints.mark mark.Semicolon (prints.space p)))))))))))))))))))))
  one_prefix k d n at (Decrypts m a j) q scope few o v r more p =
      prints.keyword word.Decrypt refl refl (prints.space (prints.part (message_text spell n m) _ more (message m scope o.0 v.0 _ _ refl (prints.space (prints.keyword word.Is refl refl (prints.space (prints.mark mark.BraceOpen
      (prints.part (typed_text spell n (type_text spell n a)) _ more (named n a (omega arith) scope (omega arith) o.1 v.1 _ _ refl (prints.mark mark.BraceClose
      (prints.part (message_text spell n j) _ more (message j scope o.2 v.2 _ _ refl (prints.mark mark.Semicolon (prints.space p))))))))))))))
  one_prefix k d n at (Checks m j) q scope few o v r more p =
      prints.keyword word.Check refl refl (prints.space (prints.part (message_text spell n m) _ more (message m scope o.0 v.0 _ _ refl (prints.space (prints.keyword word.Is refl refl (prints.space
      (prints.part (message_text spell n j) _ more (message j scope o.1 v.1 _ _ refl (prints.mark mark.Semicolon (prints.space p))))))))))
  one_prefix k d n at (Begins m) q scope few o v r more p =
      prints.keyword word.Begin refl refl (prints.space (prints.part (message_text spell n m) _ more (message m scope o v _ _ refl (prints.mark mark.Semicolon (prints.space p)))))
  one_prefix k d n at (Ends m) q scope few o v r more p =
      prints.keyword word.End refl refl (prints.space (prints.part (message_text spell n m) _ more (message m scope o v _ _ refl (prints.mark mark.Semicolon (prints.space p)))))
  one_prefix k d n at (EndManys m) q scope few o v r more p =
      prints.late_keyword word.EndMany refl v.0 refl (prints.space (prints.part (message_text spell n m) _ more (message m scope o v.1 _ _ refl (prints.mark mark.Semicolon (prints.space p)))))
  one_prefix k d n at (Casts m a) q scope few o v r more p =
      prints.keyword word.Cast refl refl (prints.space (prints.part (message_text spell n m) _ more (message m scope o.0 v.0 _ _ refl (prints.space (prints.keyword word.Is refl refl (prints.space
      (binder n a (omega arith) scope (omega arith) o.1 v.1 _ more p)))))))
  one_prefix k d n at (Freshes a) q scope few o v r more p =
      prints.keyword word.New refl refl (prints.space (binder n a (omega arith) scope (omega arith) o v _ more p))

  one_leaf : (k d n : ℕ) (at : Place) (l : Leaf) → PrintsInScope top k d n → OfLeaf (MessageOver k) d l → LeafFits later l → (r : List Piece) (more : List ℕ)
      → IsTrue (is_apart more) → Prints later (kinds_in r) more → Prints later (kinds_in (proc_pieces at (leaf_tree spell n l) r)) (leaf_text spell n l ++ more)
  one_leaf k d n at (Sends a b) scope o v r more apart p =
      prints.keyword word.Out refl refl (prints.space (prints.part (message_text spell n a) _ more (message a scope o.0 v.0 _ _ refl (prints.space (message b scope o.1 v.1 _ more apart p)))))
  one_leaf k d n at Stops scope o v r more apart p = prints.keyword word.Stop refl apart p

  -- an output before its sequel
  output : (k d n : ℕ) (at : Place) (l : Process) (q : t.Proc) → is_output l ≡ true → PrintsInScope top k d n → OfProcess (MessageOver k) d l → ProcessFits later l → (r : List Piece) (more : List ℕ)
      → Prints later (kinds_in (proc_pieces (below at) q (ends nowhere r))) more
      → Prints later (kinds_in (proc_pieces at (then_tree (process_tree spell sequel n l) q) r)) (process_text spell sequel n l ++ (59 ∷ 32 ∷ more))
  output k d n at (leaf (Sends a b)) q is scope o v r more p =
      prints.keyword word.Out refl refl (prints.space (prints.part (message_text spell n a) _ (59 ∷ 32 ∷ more) (message a scope o.0 v.0 _ _ refl (prints.space
      (message b scope o.1 v.1 _ (59 ∷ 32 ∷ more) refl (prints.mark mark.Semicolon (prints.space p)))))))
  output k d n at (leaf Stops) q is scope o v r more p = absurd cc
  output k d n at (prefix s l) q is scope o v r more p = absurd cc
  output k d n at (fork f l m) q is scope o v r more p = absurd cc

  -- the process is written wherever it stands so
  abbrev Written : Standing → ℕ → Process → Type 0
  Written st n p = (at : Place) (r : List Piece) (more : List ℕ) → IsTrue (is_apart more) → Prints later (kinds_in r) more
      → Prints later (kinds_in (proc_pieces at (process_tree spell st n p) r)) (process_text spell st n p ++ more)

  abbrev sequel_tree : Bool → ℕ → Process → Process → t.Proc
  sequel_tree w n p q = if w then then_tree (process_tree spell sequel n p) (process_tree spell sequel n q) else t.group nowhere (process_tree spell sequel n p) (process_tree spell alone n q)

  abbrev sequel_text : Bool → ℕ → Process → Process → List ℕ
  sequel_text w n p q =
      if w then process_text spell sequel n p ++ (codes "; " ++ process_text spell sequel n q)
      else codes "(" ++ (process_text spell sequel n p ++ (codes " | " ++ (process_text spell alone n q ++ codes ")")))

  composed : (k d n : ℕ) (at : Place) (p q : Process) (w : Bool) → is_output p ≡ w → PrintsInScope top k d n → OfProcess (MessageOver k) d p → ProcessFits later p
      → Written sequel n p → ((st : Standing) → Written st n q) → (r : List Piece) (more : List ℕ) → IsTrue (is_apart more) → Prints later (kinds_in r) more
      → Prints later (kinds_in (proc_pieces at (sequel_tree w n p q) r)) (sequel_text w n p q ++ more)
  composed k d n at p q true is scope o v first second r more apart h =
      prints.part (process_text spell sequel n p) _ more (output k d n at p (process_tree spell sequel n q) is scope o v r _ (second sequel (below at) _ more apart h))
  composed k d n at p q false is scope o v first second r more apart h =
      prints.mark mark.ParenOpen (prints.part (process_text spell sequel n p) _ more (first (below at) _ _ refl (prints.space (prints.mark mark.Bar (prints.space
      (prints.part (process_text spell alone n q) _ more (second alone (beside_place at) _ _ refl (prints.mark mark.ParenClose h))))))))

  -- a `case` up to its first process, and between its processes
  left : (k d n : ℕ) (m : Message) (a : Ty) → PrintsInScope top k d n → suc (n + ty_nodes a) ≤ top → MessageOver k d m → OfTy (MessageOver k) d a → MessageFits later m → TyFits later a
      → (r : List Piece) (more : List ℕ) → Prints later (kinds_in r) more
      → Prints later (kinds_in (a_reserved word.Case (msg_pieces 1 (message_tree (spelled_name spell) n m) (a_reserved word.Is (a_reserved word.Inl (binder_pieces (word (spell n)) (type_tree spell n a) r))))))
      (left_text spell n (message_text spell n m) (type_text spell n a) ++ more)
  left k d n m a scope few o oa v va r more h =
      prints.keyword word.Case refl refl (prints.space (prints.part (message_text spell n m) _ more (message m scope o v _ _ refl (prints.space (prints.keyword word.Is refl refl (prints.space
      (prints.keyword word.Inl refl refl (prints.space (binder n a (omega arith) scope (omega arith) oa va _ more h)))))))))

  between : (k d n : ℕ) (b : Ty) → PrintsInScope top k d n → suc (n + ty_nodes b) ≤ top → OfTy (MessageOver k) d b → TyFits later b → (r : List Piece) (more : List ℕ) → Prints later (kinds_in r) more
      → Prints later (kinds_in (a_reserved word.Is (a_reserved word.Inr (binder_pieces (word (spell n)) (type_tree spell n b) r)))) (right_text spell n (type_text spell n b) ++ more)
  between k d n b scope few o v r more h =
      prints.space (prints.keyword word.Is refl refl (prints.space (prints.keyword word.Inr refl refl (prints.space (binder n b (omega arith) scope (omega arith) o v _ more h)))))

  pub process : (k d n : ℕ) (st : Standing) (p : Process) → PrintsInScope top k d n → n + process_nodes p ≤ top → OfProcess (MessageOver k) d p → ProcessFits later p
      → (at : Place) (r : List Piece) (more : List ℕ) → IsTrue (is_apart more) → Prints later (kinds_in r) more
      → Prints later (kinds_in (proc_pieces at (process_tree spell st n p) r)) (process_text spell st n p ++ more)
  process k d n st (leaf l) scope few o v at r more apart h = one_leaf k d n at l scope o v r more apart h
  process k d n st (prefix s p) scope few o v at r more apart h =
      let b = binds_few s in
      prints.part (prefix_text spell n s) _ more (one_prefix k d n at s _ scope (omega arith) o.0 v.0 r _
      (process k (d + binds s) (n + binds s) sequel p (behind (binds s) scope (omega arith)) (omega arith) o.1 v.1 (below at) _ more apart h))
  process k d n st (fork (Branches m a b) p q) scope few o v at r more apart h =
      let whole : List ℕ = left_text spell n (message_text spell n m) (type_text spell n a) in
      let right : List ℕ = right_text spell n (type_text spell n b) in
      prints.part whole _ more (left k d n m a scope (omega arith) o.0.0 o.0.1 v.0.0 v.0.1 _ _ (prints.part (process_text spell sequel (n + 1) p) _ more
      (process k (d + 1) (n + 1) sequel p (behind 1 scope (omega arith)) (omega arith) o.1 v.1 (below at) _ _ refl (prints.part right _ more
      (between k d n b scope (omega arith) o.0.2 v.0.2 _ _ (process k (d + 1) (n + 1) sequel q (behind 1 scope (omega arith)) (omega arith) o.2 v.2 (below at) _ more apart h))))))
  process k d n alone (fork Pars p q) scope few o v at r more apart h =
      prints.part (process_text spell sequel n p) _ more (process k _ n sequel p (same scope) (omega arith) o.1 v.1 _ _ _ refl (prints.space (prints.mark mark.Bar (prints.space
      (process k _ n alone q (same scope) (omega arith) o.2 v.2 _ _ more apart h)))))
  process k d n sequel (fork Pars p q) scope few o v at r more apart h =
      composed k _ n at p q (is_output p) refl (same scope) o.1 v.1
      (λ at' r' more' apart' h'. process k _ n sequel p (same scope) (omega arith) o.1 v.1 at' r' more' apart' h')
      (λ st at' r' more' apart' h'. process k _ n st q (same scope) (omega arith) o.2 v.2 at' r' more' apart' h') r more apart h
