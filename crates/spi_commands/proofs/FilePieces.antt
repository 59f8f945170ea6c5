-- What holds of the pieces behind a part of a tree holds of them with the part before.
use Rattle.std.proofs.Common.{ℕ, ◌+◌, Bool, true, false, List, [], ◌∷◌, Option, Some, None, if◌then◌else◌}
use Rattle.spi_tree.specs.declared.tree.SWord.{SWord}
use Rattle.spi_tree.specs.Trees as t
use Rattle.spi_tree.specs.Pieces.{Piece, ends, msg_pieces, msgs_pieces, atom_pieces, atoms_pieces, effect_pieces, ty_pieces, fields_pieces, last_pieces, Place, in_seq, at_level, below, beside_place, level_of, binder_pieces, proc_pieces, words_pieces, decl_pieces, decls_pieces, step_pieces, steps_pieces, written_pieces, deriv_pieces, derivs_pieces, opponent_pieces, schedule_pieces, derivation_pieces, file_pieces}

-- what holds of pieces, and then of them behind any other, holds of those of a part that stands before them
module _ {P : List Piece → Type 0} (on : (a : Piece) (r : List Piece) → P r → P (a ∷ r)) where
  pub one : {a : Piece} {r : List Piece} → P r → P (a ∷ r)
  one {a} {r} i = on a r i

  pub two : {a b : Piece} {r : List Piece} → P r → P (a ∷ b ∷ r)
  two i = one (one i)

  pub three : {a b c : Piece} {r : List Piece} → P r → P (a ∷ b ∷ c ∷ r)
  three i = one (two i)

  mutual
    pub past_msg : (n : ℕ) (m : t.Msg) (r : List Piece) → P r → P (msg_pieces n m r)
    past_msg n (t.name s w) r i = one (three (one i))
    past_msg n (t.unit s) r i = two (two i)
    past_msg n (t.tuple s a b ms) r i = two (past_msg (n + 1) a _ (one (past_msg (n + 1) b _ (past_msgs (n + 1) ms _ (two i)))))
    past_msg n (t.inl s a) r i = two (past_msg (n + 1) a _ (one i))
    past_msg n (t.inr s a) r i = two (past_msg (n + 1) a _ (one i))
    past_msg n (t.enc s a b) r i = two (past_msg (n + 1) a _ (one (past_msg (n + 1) b _ (one i))))
    past_msg n (t.hash s a) r i = two (one (past_msg (n + 1) a _ (two i)))
    past_msg n (t.num s k) r i = two (two i)

    past_msgs : (n : ℕ) (ms : t.Msgs) (r : List Piece) → P r → P (msgs_pieces n ms r)
    past_msgs n t.no_msgs r i = i
    past_msgs n (t.more_msgs m ms) r i = one (past_msg n m _ (past_msgs n ms r i))

  past_atom : (n : ℕ) (e : t.Atom) (r : List Piece) → P r → P (atom_pieces n e r)
  past_atom n (t.ends s m) r i = two (past_msg (n + 1) m _ (one i))
  past_atom n (t.checks s m) r i = two (past_msg (n + 1) m _ (one i))
  past_atom n (t.many s m) r i = two (past_msg (n + 1) m _ (one i))

  pub past_atoms : (n : ℕ) (es : List t.Atom) (r : List Piece) → P r → P (atoms_pieces n es r)
  past_atoms n [] r i = i
  past_atoms n (e ∷ es) r i = one (past_atom n e _ (past_atoms n es r i))

  pub past_effect : (n : ℕ) (es : List t.Atom) (r : List Piece) → P r → P (effect_pieces n es r)
  past_effect n [] r i = two i
  past_effect n (e ∷ es) r i = one (past_atom n e _ (past_atoms n es _ (one i)))

  mutual
    pub past_ty : (n : ℕ) (a : t.Ty) (r : List Piece) → P r → P (ty_pieces n a r)
    past_ty n (t.un s) r i = three i
    past_ty n (t.unit_ty s) r i = two (two i)
    past_ty n (t.tuple_ty s w a fs l) r i = two (three (one (past_ty (n + 1) a _ (one (past_fields (n + 1) fs _ (past_last (n + 1) l _ (two i)))))))
    past_ty n (t.sum s a b) r i = two (past_ty (n + 1) a _ (one (past_ty (n + 1) b _ (two i))))
    past_ty n (t.key s a) r i = three (past_ty (n + 1) a _ (two i))
    past_ty n (t.nonce s es) r i = two (past_effect (n + 1) es _ (one i))
    past_ty n (t.abbr s w) r i = one (three (one i))

    past_fields : (n : ℕ) (fs : t.Fields) (r : List Piece) → P r → P (fields_pieces n fs r)
    past_fields n t.no_fields r i = i
    past_fields n (t.more_fields w a fs) r i = three (one (past_ty n a _ (one (past_fields n fs r i))))

    past_last : (n : ℕ) (l : t.Last) (r : List Piece) → P r → P (last_pieces n l r)
    past_last n (t.bare a) r i = past_ty n a r i
    past_last n (t.named w a) r i = three (one (past_ty n a r i))

  pub past_binder : (w : SWord) (a : t.Ty) (r : List Piece) → P r → P (binder_pieces w a r)
  past_binder w a r i = one (three (one (past_ty 1 a _ (two i))))

  pub past_proc : (at : Place) (p : t.Proc) (r : List Piece) → P r → P (proc_pieces at p r)
  past_proc at (t.par s p q) r i = one (past_proc (in_seq (level_of at + 1)) p _ (one (past_proc (at_level (level_of at + 1)) q _ (one i))))
  past_proc at (t.out s m n) r i = two (past_msg 1 m _ (past_msg 1 n _ (one i)))
  past_proc at (t.out_then s m n p) r i = two (past_msg 1 m _ (past_msg 1 n _ (one (past_proc (below at) p _ (one i)))))
  past_proc at (t.inp s m w a p) r i = two (past_msg 1 m _ (past_binder w a _ (past_proc (below at) p _ (one i))))
  past_proc at (t.repeat s m w a p) r i = three (past_msg 1 m _ (past_binder w a _ (past_proc (below at) p _ (one i))))
  past_proc at (t.split s m w a y c p) r i = two (past_msg 1 m _ (two (three (one (past_ty 1 a _ (one (three (one (past_ty 1 c _ (two (past_proc (below at) p _ (one i))))))))))))
  past_proc at (t.match s m w a n y c p) r i =
      two (past_msg 1 m _ (two (three (one (past_ty 1 a _ (one (past_msg 1 n _ (one (three (one (past_ty 1 c _ (two (past_proc (below at) p _ (one i))))))))))))))
  past_proc at (t.case s m w a p y c q) r i =
      two (past_msg 1 m _ (two (past_binder w a _ (past_proc (below at) p _ (two (past_binder y c _ (past_proc (below at) q _ (one i))))))))
  past_proc at (t.decrypt s m w a n p) r i =
      two (past_msg 1 m _ (two (three (one (past_ty 1 a _ (one (past_msg 1 n _ (one (past_proc (below at) p _ (one i))))))))))
  past_proc at (t.check s m n p) r i = two (past_msg 1 m _ (one (past_msg 1 n _ (one (past_proc (below at) p _ (one i))))))
  past_proc at (t.begin s m p) r i = two (past_msg 1 m _ (one (past_proc (below at) p _ (one i))))
  past_proc at (t.end s m p) r i = two (past_msg 1 m _ (one (past_proc (below at) p _ (one i))))
  past_proc at (t.end_many s m p) r i = two (past_msg 1 m _ (one (past_proc (below at) p _ (one i))))
  past_proc at (t.cast s m w a p) r i = two (past_msg 1 m _ (one (past_binder w a _ (past_proc (below at) p _ (one i)))))
  past_proc at (t.new s w a p) r i = two (past_binder w a _ (past_proc (below at) p _ (one i)))
  past_proc at (t.stop s) r i = three i
  past_proc at (t.group s p q) r i = two (past_proc (below at) p _ (one (past_proc (beside_place at) q _ (two i))))

  pub past_words : (ws : List SWord) (r : List Piece) → P r → P (words_pieces ws r)
  past_words [] r i = i
  past_words (w ∷ ws) r i = one (three (past_words ws r i))

  past_decl : (d : t.Declared) (r : List Piece) → P r → P (decl_pieces d r)
  past_decl (t.free s w ws) r i = two (three (past_words ws _ (two i)))
  past_decl (t.abbreviated s w a) r i = two (three (one (past_ty 1 a _ (two i))))

  pub past_decls : (ds : List t.Declared) (r : List Piece) → P r → P (decls_pieces ds r)
  past_decls [] r i = i
  past_decls (d ∷ ds) r i = past_decl d _ (past_decls ds r i)

  pub past_version : (b : Bool) (k l m : Piece) (r : List Piece) → P r → P (if b then k ∷ l ∷ m ∷ r else r)
  past_version true k l m r i = three i
  past_version false k l m r i = i

  pub past_opponent : (o : Option t.Proc) (r : List Piece) → P r → P (opponent_pieces o r)
  past_opponent None r i = i
  past_opponent (Some p) r i = one (past_proc (at_level 0) p r i)

  past_step : (s : t.Step) (r : List Piece) → P r → P (step_pieces s r)
  past_step (t.act s i) r h = two (three h)
  past_step (t.talk s i j) r h = three (three h)

  past_steps : (ss : List t.Step) (r : List Piece) → P r → P (steps_pieces ss r)
  past_steps [] r h = h
  past_steps (s ∷ ss) r h = past_step s _ (past_steps ss r h)

  pub past_schedule : (o : Option (List t.Step)) (r : List Piece) → P r → P (schedule_pieces o r)
  past_schedule None r h = h
  past_schedule (Some ss) r h = one (past_steps ss r h)

  pub past_written : (es : Option (List t.Atom)) (r : List Piece) → P r → P (written_pieces es r)
  past_written None r h = h
  past_written (Some es) r h = past_effect 0 es r h

  mutual
    pub past_deriv : (n : ℕ) (d : t.Deriv) (r : List Piece) → P r → P (deriv_pieces n d r)
    past_deriv n (t.rule s w es ds) r h = two (two (past_written es _ (past_derivs (n + 1) ds _ (one h))))

    pub past_derivs : (n : ℕ) (ds : t.Derivs) (r : List Piece) → P r → P (derivs_pieces n ds r)
    past_derivs n t.no_derivs r h = h
    past_derivs n (t.more_derivs d ds) r h = past_deriv n d _ (past_derivs n ds r h)

  -- what holds of a file's schedule and what is behind it holds of the file
  pub past_body : (f : t.File) → P (schedule_pieces f.schedule (derivation_pieces f.derivation (ends f.span []))) → P (file_pieces f [])
  past_body f h = one (past_version _ _ _ _ _ (past_decls f.decls _ (one (past_proc (at_level 0) f.process _ (past_opponent f.opponent _ h)))))

  -- what holds of a file's derivation holds of the file
  pub past_parts : (f : t.File) → P (derivation_pieces f.derivation (ends f.span [])) → P (file_pieces f [])
  past_parts f h = one (past_version _ _ _ _ _ (past_decls f.decls _ (one (past_proc (at_level 0) f.process _ (past_opponent f.opponent _ (past_schedule f.schedule _ h))))))
