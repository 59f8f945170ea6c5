-- What relates two lists of pieces, and the same lists behind one piece more, relates the same tree before both.
use Rattle.std.proofs.Common.{ℕ, ◌+◌, ◌==◌, Bool, true, false, List, [], ◌∷◌, Option, Some, None, if◌then◌else◌}
use Rattle.spi_tree.specs.declared.tree.SWord.{SWord}
use Rattle.spi_tree.specs.Trees as t
use Rattle.spi_tree.specs.Pieces.{Piece, msg_pieces, msgs_pieces, atom_pieces, atoms_pieces, effect_pieces, ty_pieces, fields_pieces, last_pieces, Place, in_seq, at_level, below, beside_place, level_of, named_pieces, binder_pieces, proc_pieces, words_pieces, decl_pieces, decls_pieces, step_pieces, steps_pieces, version_pieces, opponent_pieces, schedule_pieces}

module _ (R : List Piece → List Piece → Type 0) (cons : (p : Piece) (x y : List Piece) → R x y → R (p ∷ x) (p ∷ y)) where
  one : {p : Piece} {x y : List Piece} → R x y → R (p ∷ x) (p ∷ y)
  one {p} {x} {y} h = cons p x y h

  two : {p q : Piece} {x y : List Piece} → R x y → R (p ∷ q ∷ x) (p ∷ q ∷ y)
  two h = one (one h)

  three : {p q r : Piece} {x y : List Piece} → R x y → R (p ∷ q ∷ r ∷ x) (p ∷ q ∷ r ∷ y)
  three h = one (two h)

  mutual
    pub same_msg : (n : ℕ) (m : t.Msg) {x y : List Piece} → R x y → R (msg_pieces n m x) (msg_pieces n m y)
    same_msg n (t.name s w) h = two (three h)
    same_msg n (t.unit s) h = two (two h)
    same_msg n (t.tuple s a b ms) h = two (same_msg (n + 1) a (one (same_msg (n + 1) b (same_msgs (n + 1) ms (two h)))))
    same_msg n (t.inl s a) h = two (same_msg (n + 1) a (one h))
    same_msg n (t.inr s a) h = two (same_msg (n + 1) a (one h))
    same_msg n (t.enc s a b) h = two (same_msg (n + 1) a (one (same_msg (n + 1) b (one h))))
    same_msg n (t.hash s a) h = three (same_msg (n + 1) a (two h))
    same_msg n (t.num s k) h = two (two h)

    pub same_msgs : (n : ℕ) (ms : t.Msgs) {x y : List Piece} → R x y → R (msgs_pieces n ms x) (msgs_pieces n ms y)
    same_msgs n t.no_msgs h = h
    same_msgs n (t.more_msgs m ms) h = one (same_msg n m (same_msgs n ms h))

  same_atom : (n : ℕ) (e : t.Atom) {x y : List Piece} → R x y → R (atom_pieces n e x) (atom_pieces n e y)
  same_atom n (t.ends s m) h = two (same_msg (n + 1) m (one h))
  same_atom n (t.checks s m) h = two (same_msg (n + 1) m (one h))
  same_atom n (t.many s m) h = two (same_msg (n + 1) m (one h))

  same_atoms : (n : ℕ) (es : List t.Atom) {x y : List Piece} → R x y → R (atoms_pieces n es x) (atoms_pieces n es y)
  same_atoms n [] h = h
  same_atoms n (e ∷ es) h = one (same_atom n e (same_atoms n es h))

  pub same_effect : (n : ℕ) (es : List t.Atom) {x y : List Piece} → R x y → R (effect_pieces n es x) (effect_pieces n es y)
  same_effect n [] h = two h
  same_effect n (e ∷ es) h = one (same_atom n e (same_atoms n es (one h)))

  mutual
    pub same_ty : (n : ℕ) (a : t.Ty) {x y : List Piece} → R x y → R (ty_pieces n a x) (ty_pieces n a y)
    same_ty n (t.un s) h = three h
    same_ty n (t.unit_ty s) h = two (two h)
    same_ty n (t.tuple_ty s w a fs l) h = three (three (same_ty (n + 1) a (one (same_fields (n + 1) fs (same_last (n + 1) l (two h))))))
    same_ty n (t.sum s a b) h = two (same_ty (n + 1) a (one (same_ty (n + 1) b (two h))))
    same_ty n (t.key s a) h = three (same_ty (n + 1) a (two h))
    same_ty n (t.nonce s es) h = two (same_effect (n + 1) es (one h))
    same_ty n (t.abbr s w) h = two (three h)

    same_fields : (n : ℕ) (fs : t.Fields) {x y : List Piece} → R x y → R (fields_pieces n fs x) (fields_pieces n fs y)
    same_fields n t.no_fields h = h
    same_fields n (t.more_fields w a fs) h = two (two (same_ty n a (one (same_fields n fs h))))

    same_last : (n : ℕ) (l : t.Last) {x y : List Piece} → R x y → R (last_pieces n l x) (last_pieces n l y)
    same_last n (t.bare a) h = same_ty n a h
    same_last n (t.named w a) h = two (two (same_ty n a h))

  pub same_named : (w : SWord) (a : t.Ty) {x y : List Piece} → R x y → R (named_pieces w a x) (named_pieces w a y)
  same_named w a h = two (two (same_ty 1 a h))

  pub same_binder : (w : SWord) (a : t.Ty) {x y : List Piece} → R x y → R (binder_pieces w a x) (binder_pieces w a y)
  same_binder w a h = one (same_named w a (two h))

  pub same_proc : (at : Place) (p : t.Proc) {x y : List Piece} → R x y → R (proc_pieces at p x) (proc_pieces at p y)
  same_proc at (t.par s p q) h = one (same_proc (in_seq (level_of at + 1)) p (one (same_proc (at_level (level_of at + 1)) q (one h))))
  same_proc at (t.out s m n) h = two (same_msg 1 m (same_msg 1 n (one h)))
  same_proc at (t.out_then s m n p) h = two (same_msg 1 m (same_msg 1 n (one (same_proc (below at) p (one h)))))
  same_proc at (t.inp s m w a p) h = two (same_msg 1 m (same_binder w a (same_proc (below at) p (one h))))
  same_proc at (t.repeat s m w a p) h = three (same_msg 1 m (same_binder w a (same_proc (below at) p (one h))))
  same_proc at (t.split s m w a y c p) h = two (same_msg 1 m (two (same_named w a (one (same_named y c (two (same_proc (below at) p (one h))))))))
  same_proc at (t.match s m w a n y c p) h =
      two (same_msg 1 m (two (same_named w a (one (same_msg 1 n (one (same_named y c (two (same_proc (below at) p (one h))))))))))
  same_proc at (t.case s m w a p y c q) h =
      two (same_msg 1 m (two (same_binder w a (same_proc (below at) p (two (same_binder y c (same_proc (below at) q (one h))))))))
  same_proc at (t.decrypt s m w a n p) h = two (same_msg 1 m (two (same_named w a (one (same_msg 1 n (one (same_proc (below at) p (one h))))))))
  same_proc at (t.check s m n p) h = two (same_msg 1 m (one (same_msg 1 n (one (same_proc (below at) p (one h))))))
  same_proc at (t.begin s m p) h = two (same_msg 1 m (one (same_proc (below at) p (one h))))
  same_proc at (t.end s m p) h = two (same_msg 1 m (one (same_proc (below at) p (one h))))
  same_proc at (t.end_many s m p) h = two (same_msg 1 m (one (same_proc (below at) p (one h))))
  same_proc at (t.cast s m w a p) h = two (same_msg 1 m (one (same_binder w a (same_proc (below at) p (one h)))))
  same_proc at (t.new s w a p) h = two (same_binder w a (same_proc (below at) p (one h)))
  same_proc at (t.stop s) h = three h
  same_proc at (t.group s p q) h = two (same_proc (below at) p (one (same_proc (beside_place at) q (two h))))

  same_words : (ws : List SWord) {x y : List Piece} → R x y → R (words_pieces ws x) (words_pieces ws y)
  same_words [] h = h
  same_words (w ∷ ws) h = two (two (same_words ws h))

  pub same_decl : (d : t.Declared) {x y : List Piece} → R x y → R (decl_pieces d x) (decl_pieces d y)
  same_decl (t.free s w ws) h = two (three (same_words ws (two h)))
  same_decl (t.abbreviated s w a) h = three (three (same_ty 1 a (two h)))

  pub same_decls : (ds : List t.Declared) {x y : List Piece} → R x y → R (decls_pieces ds x) (decls_pieces ds y)
  same_decls [] h = h
  same_decls (d ∷ ds) h = same_decl d (same_decls ds h)

  version_by : (b : Bool) (k l m : Piece) {x y : List Piece} → R x y → R (if b then k ∷ l ∷ m ∷ x else x) (if b then k ∷ l ∷ m ∷ y else y)
  version_by true k l m h = three h
  version_by false k l m h = h

  pub same_version : (v : ℕ) {x y : List Piece} → R x y → R (version_pieces v x) (version_pieces v y)
  same_version v h = version_by (v == 2) _ _ _ h

  pub same_opponent : (o : Option t.Proc) {x y : List Piece} → R x y → R (opponent_pieces o x) (opponent_pieces o y)
  same_opponent None h = h
  same_opponent (Some p) h = one (same_proc (at_level 0) p h)

  same_step : (s : t.Step) {x y : List Piece} → R x y → R (step_pieces s x) (step_pieces s y)
  same_step (t.act s i) h = two (three h)
  same_step (t.talk s i j) h = three (three h)

  same_steps : (ss : List t.Step) {x y : List Piece} → R x y → R (steps_pieces ss x) (steps_pieces ss y)
  same_steps [] h = h
  same_steps (s ∷ ss) h = same_step s (same_steps ss h)

  pub same_schedule : (o : Option (List t.Step)) {x y : List Piece} → R x y → R (schedule_pieces o x) (schedule_pieces o y)
  same_schedule None h = h
  same_schedule (Some ss) h = one (same_steps ss h)
