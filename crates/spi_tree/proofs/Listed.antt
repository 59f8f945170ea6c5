-- The tokens among the pieces of a tree are those of its lists.
use Rattle.std.proofs.Common.{◌≡◌, ℕ, Bool, true, false, cond, eqb, List, [], ◌∷◌, ◌++◌, Option, Some, None, refl, sym, ap, ◌∙◌, append_assoc, append-nil}
use Rattle.spi_lex.specs.declared.token.Kind.{Kind}
use Rattle.spi_lex.specs.declared.token.Kind.TheVariants as kinds
use Rattle.spi_lex.specs.declared.token.Reserved.{Reserved}
use Rattle.spi_lex.specs.declared.token.Reserved.TheVariants as word
use Rattle.spi_lex.specs.declared.token.Mark.TheVariants as mark
use Rattle.spi_tree.specs.declared.tree.SWord.{SWord}
use Rattle.spi_tree.specs.Trees as t
use Rattle.spi_tree.specs.Pieces.{Piece, a_mark, a_reserved, ends, kinds_in, msg_pieces, msgs_pieces, atom_pieces, atoms_pieces, effect_pieces, ty_pieces, fields_pieces, last_pieces, named_pieces, binder_pieces, first_name_pieces, second_name_pieces, Place, below, beside_place, proc_pieces, words_pieces, decl_pieces, decls_pieces, step_pieces, steps_pieces, written_pieces, deriv_pieces, derivs_pieces, version_pieces, opponent_pieces, schedule_pieces, derivation_pieces, tokens_of}
use Rattle.spi_tree.specs.Listed.{joined, mark_list, reserved_list, msg_list, msgs_list, atom_list, more_atom_list, effect_list, ty_list, fields_list, last_list, named_list, binder_list, first_list, second_list, both_list, matched_list, side_list, open_list, about_list, ended_list, proc_list, more_word_list, decl_list, step_list, written_list, deriv_list, derivs_list, version_list, opponent_list, schedule_list, derivation_list, file_list}

mutual
  pub msg_is : (x : t.Msg) (n : ℕ) (r : List Piece) → kinds_in (msg_pieces n x r) ≡ msg_list x ++ kinds_in r
  msg_is (t.name s w) n r = refl
  msg_is (t.unit s) n r = refl
  msg_is (t.tuple s a b ms) n r = simp (msg_is a, msg_is b, msgs_is ms, append_assoc) refl
  msg_is (t.inl s a) n r = simp (msg_is a, append_assoc) refl
  msg_is (t.inr s a) n r = simp (msg_is a, append_assoc) refl
  msg_is (t.enc s a b) n r = simp (msg_is a, msg_is b, append_assoc) refl
  msg_is (t.hash s a) n r = simp (msg_is a, append_assoc) refl
  msg_is (t.num s i) n r = refl

  pub msgs_is : (xs : t.Msgs) (n : ℕ) (r : List Piece) → kinds_in (msgs_pieces n xs r) ≡ msgs_list xs ++ kinds_in r
  msgs_is t.no_msgs n r = refl
  msgs_is (t.more_msgs m ms) n r = simp (msg_is m, msgs_is ms, append_assoc) refl

pub atom_is : (x : t.Atom) (n : ℕ) (r : List Piece) → kinds_in (atom_pieces n x r) ≡ atom_list x ++ kinds_in r
atom_is (t.ends s m) n r = simp (msg_is m) refl
atom_is (t.checks s m) n r = simp (msg_is m) refl
atom_is (t.many s m) n r = simp (msg_is m) refl

pub atoms_is : (xs : List t.Atom) (n : ℕ) (r : List Piece) → kinds_in (atoms_pieces n xs r) ≡ joined more_atom_list xs ++ kinds_in r
atoms_is [] n r = refl
atoms_is (e ∷ es) n r = simp (atom_is e, atoms_is es, append_assoc) refl

pub effect_is : (xs : List t.Atom) (n : ℕ) (r : List Piece) → kinds_in (effect_pieces n xs r) ≡ effect_list xs ++ kinds_in r
effect_is [] n r = refl
effect_is (e ∷ es) n r = simp (atom_is e, atoms_is es, append_assoc) refl

mutual
  pub ty_is : (x : t.Ty) (n : ℕ) (r : List Piece) → kinds_in (ty_pieces n x r) ≡ ty_list x ++ kinds_in r
  ty_is (t.un s) n r = refl
  ty_is (t.unit_ty s) n r = refl
  ty_is (t.tuple_ty s w a fs l) n r = simp (ty_is a, fields_is fs, last_is l, append_assoc) refl
  ty_is (t.sum s a b) n r = simp (ty_is a, ty_is b, append_assoc) refl
  ty_is (t.key s a) n r = simp (ty_is a, append_assoc) refl
  ty_is (t.nonce s es) n r = simp (effect_is es) refl
  ty_is (t.abbr s w) n r = refl

  pub fields_is : (xs : t.Fields) (n : ℕ) (r : List Piece) → kinds_in (fields_pieces n xs r) ≡ fields_list xs ++ kinds_in r
  fields_is t.no_fields n r = refl
  fields_is (t.more_fields w a fs) n r = simp (ty_is a, fields_is fs, append_assoc) refl

  pub last_is : (x : t.Last) (n : ℕ) (r : List Piece) → kinds_in (last_pieces n x r) ≡ last_list x ++ kinds_in r
  last_is (t.bare a) n r = ty_is a n r
  last_is (t.named w a) n r = simp (ty_is a) refl

-- lists in groups, one behind another
onto : (x : List Kind) {y z : List Kind} → y ≡ z → x ++ y ≡ x ++ z
onto x h = ap (λ l. x ++ l) h

leads : (x y z k : List Kind) → ((x ++ y) ++ z) ++ k ≡ x ++ (y ++ (z ++ k))
leads x y z k = append_assoc (x ++ y) z k ∙ append_assoc x y (z ++ k)

leads4 : (x y z u k : List Kind) → (((x ++ y) ++ z) ++ u) ++ k ≡ x ++ (y ++ (z ++ (u ++ k)))
leads4 x y z u k = append_assoc ((x ++ y) ++ z) u k ∙ leads x y z (u ++ k)

leads5 : (x y z u v k : List Kind) → ((((x ++ y) ++ z) ++ u) ++ v) ++ k ≡ x ++ (y ++ (z ++ (u ++ (v ++ k))))
leads5 x y z u v k = append_assoc (((x ++ y) ++ z) ++ u) v k ∙ leads4 x y z u (v ++ k)

-- names with their types, and what stands round them
named_is : (w : SWord) (b : t.Ty) (r : List Piece) → kinds_in (named_pieces w b r) ≡ named_list w b ++ kinds_in r
named_is w b r = ap (λ l. kinds.Word w.word ∷ kinds.Mark mark.Colon ∷ l) (ty_is b 1 r)

closed_is : (w : SWord) (b : t.Ty) (r : List Piece)
    → kinds_in (named_pieces w b (a_mark mark.ParenClose (a_mark mark.Semicolon r))) ≡ (named_list w b ++ mark_list mark.ParenClose ++ mark_list mark.Semicolon) ++ kinds_in r
closed_is w b r =
    named_is w b (a_mark mark.ParenClose (a_mark mark.Semicolon r))
    ∙ sym (leads (named_list w b) (mark_list mark.ParenClose) (mark_list mark.Semicolon) (kinds_in r))

binder_is : (w : SWord) (b : t.Ty) (r : List Piece) → kinds_in (binder_pieces w b r) ≡ binder_list w b ++ kinds_in r
binder_is w b r = ap (λ l. kinds.Mark mark.ParenOpen ∷ l) (closed_is w b r)

first_is : (w : SWord) (b : t.Ty) (r : List Piece) → kinds_in (first_name_pieces w b r) ≡ first_list w b ++ kinds_in r
first_is w b r = ap (λ l. kinds.Reserved word.Is ∷ kinds.Mark mark.ParenOpen ∷ l) (named_is w b r)

second_is : (w : SWord) (b : t.Ty) (r : List Piece) → kinds_in (second_name_pieces w b r) ≡ second_list w b ++ kinds_in r
second_is w b r = ap (λ l. kinds.Mark mark.Comma ∷ l) (closed_is w b r)

both_is : (w : SWord) (b : t.Ty) (x : SWord) (c : t.Ty) (r : List Piece) → kinds_in (first_name_pieces w b (second_name_pieces x c r)) ≡ both_list w b x c ++ kinds_in r
both_is w b x c r = first_is w b (second_name_pieces x c r) ∙ (onto (first_list w b) (second_is x c r) ∙ sym (append_assoc (first_list w b) (second_list x c) (kinds_in r)))

matched_is : (w : SWord) (b : t.Ty) (n : t.Msg) (x : SWord) (c : t.Ty) (r : List Piece)
    → kinds_in (first_name_pieces w b (a_mark mark.Equals (msg_pieces 1 n (second_name_pieces x c r)))) ≡ matched_list w b n x c ++ kinds_in r
matched_is w b n x c r =
    first_is w b (a_mark mark.Equals (msg_pieces 1 n (second_name_pieces x c r)))
    ∙ (onto (first_list w b) (ap (λ l. kinds.Mark mark.Equals ∷ l) (msg_is n 1 (second_name_pieces x c r) ∙ onto (msg_list n) (second_is x c r)))
    ∙ sym (leads4 (first_list w b) (mark_list mark.Equals) (msg_list n) (second_list x c) (kinds_in r)))

side_is : (side : Reserved) (w : SWord) (b : t.Ty) (r : List Piece) → kinds_in (a_reserved word.Is (a_reserved side (binder_pieces w b r))) ≡ side_list side w b ++ kinds_in r
side_is side w b r = ap (λ l. kinds.Reserved word.Is ∷ kinds.Reserved side ∷ l) (binder_is w b r)

ended_is : (n : t.Msg) (r : List Piece) → kinds_in (msg_pieces 1 n (a_mark mark.Semicolon r)) ≡ ended_list n ++ kinds_in r
ended_is n r = msg_is n 1 (a_mark mark.Semicolon r) ∙ sym (append_assoc (msg_list n) (mark_list mark.Semicolon) (kinds_in r))

open_is : (w : SWord) (b : t.Ty) (n : t.Msg) (r : List Piece)
    → kinds_in (a_reserved word.Is (a_mark mark.BraceOpen (named_pieces w b (a_mark mark.BraceClose (msg_pieces 1 n (a_mark mark.Semicolon r)))))) ≡ open_list w b n ++ kinds_in r
open_is w b n r =
    ap (λ l. kinds.Reserved word.Is ∷ kinds.Mark mark.BraceOpen ∷ l)
    (named_is w b (a_mark mark.BraceClose (msg_pieces 1 n (a_mark mark.Semicolon r)))
    ∙ (onto (named_list w b) (ap (λ l. kinds.Mark mark.BraceClose ∷ l) (msg_is n 1 (a_mark mark.Semicolon r)))
    ∙ sym (leads4 (named_list w b) (mark_list mark.BraceClose) (msg_list n) (mark_list mark.Semicolon) (kinds_in r))))

-- a word and the message that it is about
about_is : (w : Reserved) (m : t.Msg) (r : List Piece) {k : List Kind} → kinds_in r ≡ k → kinds.Reserved w ∷ kinds_in (msg_pieces 1 m r) ≡ about_list w m ++ k
about_is w m r h = ap (λ l. kinds.Reserved w ∷ l) (msg_is m 1 r ∙ onto (msg_list m) h)

pub proc_is : (x : t.Proc) (a : Place) (r : List Piece) → kinds_in (proc_pieces a x r) ≡ proc_list x ++ kinds_in r
proc_is (t.par s p q) a r = simp (proc_is p, proc_is q, append_assoc) refl
proc_is (t.out s m n) a r = about_is word.Out m (msg_pieces 1 n (ends s r)) (msg_is n 1 (ends s r)) ∙ sym (append_assoc (about_list word.Out m) (msg_list n) (kinds_in r))
proc_is (t.out_then s m n p) a r =
    about_is word.Out m (msg_pieces 1 n (a_mark mark.Semicolon (proc_pieces (below a) p (ends s r)))) (ended_is n (proc_pieces (below a) p (ends s r)) ∙ onto (ended_list n) (proc_is p (below a) (ends s r))) ∙ sym (leads (about_list word.Out m) (ended_list n) (proc_list p) (kinds_in r))
proc_is (t.inp s m w b p) a r =
    about_is word.Inp m (binder_pieces w b (proc_pieces (below a) p (ends s r))) (binder_is w b (proc_pieces (below a) p (ends s r)) ∙ onto (binder_list w b) (proc_is p (below a) (ends s r))) ∙ sym (leads (about_list word.Inp m) (binder_list w b) (proc_list p) (kinds_in r))
proc_is (t.repeat s m w b p) a r =
    ap (λ l. kinds.Reserved word.Repeat ∷ l) (about_is word.Inp m (binder_pieces w b (proc_pieces (below a) p (ends s r))) (binder_is w b (proc_pieces (below a) p (ends s r)) ∙ onto (binder_list w b) (proc_is p (below a) (ends s r))))
    ∙ sym (leads (reserved_list word.Repeat ++ about_list word.Inp m) (binder_list w b) (proc_list p) (kinds_in r))
proc_is (t.split s m w b x c p) a r =
    about_is word.Split m (first_name_pieces w b (second_name_pieces x c (proc_pieces (below a) p (ends s r)))) (both_is w b x c (proc_pieces (below a) p (ends s r)) ∙ onto (both_list w b x c) (proc_is p (below a) (ends s r))) ∙ sym (leads (about_list word.Split m) (both_list w b x c) (proc_list p) (kinds_in r))
proc_is (t.match s m w b n x c p) a r =
    about_is word.Match m (first_name_pieces w b (a_mark mark.Equals (msg_pieces 1 n (second_name_pieces x c (proc_pieces (below a) p (ends s r)))))) (matched_is w b n x c (proc_pieces (below a) p (ends s r)) ∙ onto (matched_list w b n x c) (proc_is p (below a) (ends s r))) ∙ sym (leads (about_list word.Match m) (matched_list w b n x c) (proc_list p) (kinds_in r))
proc_is (t.case s m w b p x c q) a r =
    let on_right : List Piece = proc_pieces (below a) q (ends s r) in
    let behind : List Piece = a_reserved word.Is (a_reserved word.Inr (binder_pieces x c on_right)) in
    let left : List Piece = proc_pieces (below a) p behind in
    about_is word.Case m (a_reserved word.Is (a_reserved word.Inl (binder_pieces w b left)))
    (side_is word.Inl w b left ∙ onto (side_list word.Inl w b) (proc_is p (below a) behind ∙ onto (proc_list p) (side_is word.Inr x c on_right ∙ onto (side_list word.Inr x c) (proc_is q (below a) (ends s r)))))
    ∙ sym (leads5 (about_list word.Case m) (side_list word.Inl w b) (proc_list p) (side_list word.Inr x c) (proc_list q) (kinds_in r))
proc_is (t.decrypt s m w b n p) a r =
    about_is word.Decrypt m (a_reserved word.Is (a_mark mark.BraceOpen (named_pieces w b (a_mark mark.BraceClose (msg_pieces 1 n (a_mark mark.Semicolon (proc_pieces (below a) p (ends s r)))))))) (open_is w b n (proc_pieces (below a) p (ends s r)) ∙ onto (open_list w b n) (proc_is p (below a) (ends s r))) ∙ sym (leads (about_list word.Decrypt m) (open_list w b n) (proc_list p) (kinds_in r))
proc_is (t.check s m n p) a r =
    about_is word.Check m (a_reserved word.Is (msg_pieces 1 n (a_mark mark.Semicolon (proc_pieces (below a) p (ends s r))))) (ap (λ l. kinds.Reserved word.Is ∷ l) (ended_is n (proc_pieces (below a) p (ends s r))) ∙ onto (reserved_list word.Is ++ ended_list n) (proc_is p (below a) (ends s r))) ∙ sym (leads (about_list word.Check m) (reserved_list word.Is ++ ended_list n) (proc_list p) (kinds_in r))
proc_is (t.begin s m p) a r =
    about_is word.Begin m (a_mark mark.Semicolon (proc_pieces (below a) p (ends s r))) (ap (λ l. kinds.Mark mark.Semicolon ∷ l) (proc_is p (below a) (ends s r)))
    ∙ sym (leads (about_list word.Begin m) (mark_list mark.Semicolon) (proc_list p) (kinds_in r))
proc_is (t.end s m p) a r =
    about_is word.End m (a_mark mark.Semicolon (proc_pieces (below a) p (ends s r))) (ap (λ l. kinds.Mark mark.Semicolon ∷ l) (proc_is p (below a) (ends s r)))
    ∙ sym (leads (about_list word.End m) (mark_list mark.Semicolon) (proc_list p) (kinds_in r))
proc_is (t.end_many s m p) a r =
    about_is word.EndMany m (a_mark mark.Semicolon (proc_pieces (below a) p (ends s r))) (ap (λ l. kinds.Mark mark.Semicolon ∷ l) (proc_is p (below a) (ends s r)))
    ∙ sym (leads (about_list word.EndMany m) (mark_list mark.Semicolon) (proc_list p) (kinds_in r))
proc_is (t.cast s m w b p) a r =
    about_is word.Cast m (a_reserved word.Is (binder_pieces w b (proc_pieces (below a) p (ends s r)))) (ap (λ l. kinds.Reserved word.Is ∷ l) (binder_is w b (proc_pieces (below a) p (ends s r))) ∙ onto (reserved_list word.Is ++ binder_list w b) (proc_is p (below a) (ends s r))) ∙ sym (leads (about_list word.Cast m) (reserved_list word.Is ++ binder_list w b) (proc_list p) (kinds_in r))
proc_is (t.new s w b p) a r =
    ap (λ l. kinds.Reserved word.New ∷ l) (binder_is w b (proc_pieces (below a) p (ends s r)) ∙ onto (binder_list w b) (proc_is p (below a) (ends s r))) ∙ sym (leads (reserved_list word.New) (binder_list w b) (proc_list p) (kinds_in r))
proc_is (t.stop s) a r = refl
proc_is (t.group s p q) a r =
    let rest : List Piece = proc_pieces (beside_place a) q (a_mark mark.ParenClose (ends s r)) in
    ap (λ l. kinds.Mark mark.ParenOpen ∷ l)
    (proc_is p (below a) (a_mark mark.Bar rest) ∙ (onto (proc_list p) (ap (λ l. kinds.Mark mark.Bar ∷ l) (proc_is q (beside_place a) (a_mark mark.ParenClose (ends s r))))
    ∙ sym (leads4 (proc_list p) (mark_list mark.Bar) (proc_list q) (mark_list mark.ParenClose) (kinds_in r))))

pub words_is : (xs : List SWord) (r : List Piece) → kinds_in (words_pieces xs r) ≡ joined more_word_list xs ++ kinds_in r
words_is [] r = refl
words_is (w ∷ ws) r = simp (words_is ws) refl

pub decl_is : (x : t.Declared) (r : List Piece) → kinds_in (decl_pieces x r) ≡ decl_list x ++ kinds_in r
decl_is (t.free s w ws) r = simp (words_is ws, append_assoc) refl
decl_is (t.abbreviated s w a) r = simp (ty_is a, append_assoc) refl

pub decls_is : (xs : List t.Declared) (r : List Piece) → kinds_in (decls_pieces xs r) ≡ joined decl_list xs ++ kinds_in r
decls_is [] r = refl
decls_is (d ∷ ds) r = simp (decl_is d, decls_is ds, append_assoc) refl

pub step_is : (x : t.Step) (r : List Piece) → kinds_in (step_pieces x r) ≡ step_list x ++ kinds_in r
step_is (t.act s i) r = refl
step_is (t.talk s i j) r = refl

pub steps_is : (xs : List t.Step) (r : List Piece) → kinds_in (steps_pieces xs r) ≡ joined step_list xs ++ kinds_in r
steps_is [] r = refl
steps_is (x ∷ xs) r = simp (step_is x, steps_is xs, append_assoc) refl

pub written_is : (xs : Option (List t.Atom)) (r : List Piece) → kinds_in (written_pieces xs r) ≡ written_list xs ++ kinds_in r
written_is None r = refl
written_is (Some es) r = effect_is es 0 r

mutual
  pub deriv_is : (x : t.Deriv) (n : ℕ) (r : List Piece) → kinds_in (deriv_pieces n x r) ≡ deriv_list x ++ kinds_in r
  deriv_is (t.rule s w es ds) n r = simp (written_is es, derivs_is ds, append_assoc) refl

  pub derivs_is : (xs : t.Derivs) (n : ℕ) (r : List Piece) → kinds_in (derivs_pieces n xs r) ≡ derivs_list xs ++ kinds_in r
  derivs_is t.no_derivs n r = refl
  derivs_is (t.more_derivs d ds) n r = simp (deriv_is d, derivs_is ds, append_assoc) refl

version_is : (v : ℕ) (r : List Piece) → kinds_in (version_pieces v r) ≡ version_list v ++ kinds_in r
version_is v r = go (eqb v 2)
  where
    go : (b : Bool) → kinds_in (cond b (Rattle.spi_tree.specs.Pieces.a_token (kinds.Word (Rattle.std.specs.Prelude.codes "version")) (Rattle.spi_tree.specs.Pieces.a_number 2 (a_mark mark.Semicolon r))) r)
        ≡ cond b (kinds.Word (Rattle.std.specs.Prelude.codes "version") ∷ [] ++ kinds.Number 2 ∷ [] ++ mark_list mark.Semicolon) [] ++ kinds_in r
    go true = refl
    go false = refl

opponent_is : (x : Option t.Proc) (r : List Piece) → kinds_in (opponent_pieces x r) ≡ opponent_list x ++ kinds_in r
opponent_is None r = refl
opponent_is (Some p) r = simp (proc_is p) refl

schedule_is : (x : Option (List t.Step)) (r : List Piece) → kinds_in (schedule_pieces x r) ≡ schedule_list x ++ kinds_in r
schedule_is None r = refl
schedule_is (Some xs) r = simp (steps_is xs) refl

derivation_is : (x : Option t.Deriv) (r : List Piece) → kinds_in (derivation_pieces x r) ≡ derivation_list x ++ kinds_in r
derivation_is None r = refl
derivation_is (Some d) r = simp (deriv_is d) refl

pub file_is : (f : t.File) → tokens_of f ≡ file_list f
file_is f = simp (version_is, decls_is, proc_is, opponent_is, schedule_is, derivation_is, append_assoc, append-nil) refl
