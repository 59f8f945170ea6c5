-- The pieces of each symbol's trees, and which of those trees are formed.
use Rattle.std.proofs.Common.{◌≡◌, ◌⊎◌, ℕ, ◌+◌, Bool, true, false, List, [], ◌∷◌, Option, Some, None, IfSome}
use Rattle.spi_lex.specs.declared.token.Reserved.TheVariants as word
use Rattle.spi_lex.specs.declared.token.Mark.TheVariants as mark
use Rattle.spi_tree.specs.declared.tree.SWord.{SWord}
use Rattle.spi_tree.specs.Trees as t
use Rattle.spi_tree.specs.Pieces.{Piece, closes, a_mark, a_reserved, a_number, a_word, msg_pieces, msgs_pieces, atom_pieces, atoms_pieces, effect_pieces, ty_pieces, fields_pieces, last_pieces, named_pieces, binder_pieces, Place, in_seq, at_level, proc_pieces, words_pieces, decl_pieces, decls_pieces, step_pieces, steps_pieces, deriv_pieces, opponent_pieces, schedule_pieces, derivation_pieces, file_pieces}
use Rattle.spi_tree.specs.Formed.{IsMsg, AreMsgs, IsAtom, AreAtoms, IsTy, AreFields, IsLast, IsProc, IsDeclared, AreDeclared, IsWritten, IsFormedOpponent, is_later}
use Rattle.spi_parse.specs.Table.{ListItem, one, last, Body, Sym, the_mark, the_reserved, the_word, the_number, the_two, msg, msgs_item, msgs, atom, atoms_item, atoms, effect, ty, fields_item, fields_rest, fields, fields_more, named, binder, split_head, match_head, case_head, decrypt_head, check_head, cast_head, sproc, seq, out_tail, par_tail, words_item, words, free_rest, abbr_rest, decl, decls_item, decls, act_rest, talk_rest, steps_item, steps, deriv, opponent_tail, schedule_tail, derivation_tail, body, file, Tree, Trees}
use Rattle.spi_parse.specs.Rules.{arity_of, writes_effect}
use Rattle.spi_parse.specs.Formed.{count_derivs, is_written}

abbrev pub item_msg : ℕ → ListItem t.Msg (Unit {0}) → List Piece → List Piece
item_msg n (one m) r = a_mark mark.Comma (msg_pieces n m r)
item_msg n (last e) r = a_mark mark.ParenClose r

abbrev pub item_atom : ℕ → ListItem t.Atom (Unit {0}) → List Piece → List Piece
item_atom n (one m) r = a_mark mark.Comma (atom_pieces n m r)
item_atom n (last e) r = a_mark mark.BracketClose r

abbrev pub item_field : ℕ → ListItem t.Field t.Last → List Piece → List Piece
item_field n (one f) r = a_word false f.name (a_mark mark.Colon (ty_pieces n f.ty (a_mark mark.Comma r)))
item_field n (last l) r = last_pieces n l (a_mark mark.ParenClose r)

abbrev pub rest_pieces : Bool → List Piece → List Piece
rest_pieces false r = a_mark mark.Comma r
rest_pieces true r = a_mark mark.ParenClose r

abbrev pub all_fields : ℕ → List t.Field × t.Last → List Piece → List Piece
all_fields n x r = fields_pieces n (t.fields_of_list x.0) (last_pieces n x.1 (a_mark mark.ParenClose r))

abbrev pub more_pieces : ℕ → Option (List t.Field × t.Last) → List Piece → List Piece
more_pieces n None r = a_mark mark.ParenClose r
more_pieces n (Some x) r = a_mark mark.Comma (all_fields n x r)

abbrev pub out_rest : ℕ → Option t.Proc → List Piece → List Piece
out_rest n None r = r
out_rest n (Some p) r = a_mark mark.Semicolon (proc_pieces (in_seq (n + 1)) p r)

abbrev pub par_rest : ℕ → Option t.Proc → List Piece → List Piece
par_rest n None r = r
par_rest n (Some p) r = a_mark mark.Bar (proc_pieces (at_level (n + 1)) p r)

abbrev pub item_word : ListItem SWord (Unit {0}) → List Piece → List Piece
item_word (one w) r = a_mark mark.Comma (a_word false w r)
item_word (last e) r = a_mark mark.Semicolon r

abbrev pub item_decl : ListItem t.Declared (Unit {0}) → List Piece → List Piece
item_decl (one d) r = decl_pieces d r
item_decl (last e) r = a_reserved word.Process r

abbrev pub item_step : ListItem t.Step (Unit {0}) → List Piece → List Piece
item_step (one x) r = step_pieces x r
item_step (last e) r = r

abbrev pub body_pieces : Body → List Piece → List Piece
body_pieces b r = decls_pieces b.decls (a_reserved word.Process (proc_pieces (at_level 0) b.process (opponent_pieces b.opponent (schedule_pieces b.schedule (derivation_pieces b.derivation r)))))

abbrev pub spell : (a : Sym) → Tree a → List Piece → List Piece
spell (the_mark m) x r = a_mark m r
spell (the_reserved w) x r = a_reserved w r
spell the_word x r = a_word false x r
spell the_number x r = a_number x r
spell the_two x r = a_number 2 r
spell (msg v d n) x r = msg_pieces n x r
spell (msgs_item v d n) x r = item_msg n x r
spell (msgs v d n) x r = msgs_pieces n (t.msgs_of_list x.0) (a_mark mark.ParenClose r)
spell (atom v d n) x r = atom_pieces n x r
spell (atoms_item v d n) x r = item_atom n x r
spell (atoms v d n) x r = atoms_pieces n x.0 (a_mark mark.BracketClose r)
spell (effect v d n) x r = effect_pieces n x r
spell (ty v n) x r = ty_pieces n x r
spell (fields_item v n) x r = item_field n x r
spell fields_rest x r = rest_pieces x r
spell (fields v n) x r = all_fields n x r
spell (fields_more v n) x r = more_pieces n x r
spell (named v) x r = named_pieces x.0 x.1 r
spell (binder v) x r = binder_pieces x.0 x.1 r
spell (split_head v) x r = a_reserved word.Is (a_mark mark.ParenOpen (named_pieces x.0 x.1 (a_mark mark.Comma (named_pieces x.2 x.3 (a_mark mark.ParenClose (a_mark mark.Semicolon r))))))
spell (match_head v) x r = a_reserved word.Is (a_mark mark.ParenOpen (named_pieces x.0 x.1 (a_mark mark.Equals (msg_pieces 1 x.2 (a_mark mark.Comma (named_pieces x.3 x.4 (a_mark mark.ParenClose (a_mark mark.Semicolon r))))))))
spell (case_head v w) x r = a_reserved word.Is (a_reserved w (binder_pieces x.0 x.1 r))
spell (decrypt_head v) x r = a_reserved word.Is (a_mark mark.BraceOpen (named_pieces x.0 x.1 (a_mark mark.BraceClose (msg_pieces 1 x.2 (a_mark mark.Semicolon r)))))
spell (check_head v) x r = a_reserved word.Is (msg_pieces 1 x (a_mark mark.Semicolon r))
spell (cast_head v) x r = a_reserved word.Is (binder_pieces x.0 x.1 r)
spell (sproc v n) x r = proc_pieces (at_level n) x r
spell (seq v n) x r = proc_pieces (in_seq n) x r
spell (out_tail v n) x r = out_rest n x r
spell (par_tail v n) x r = par_rest n x r
spell words_item x r = item_word x r
spell words x r = words_pieces x.0 (a_mark mark.Semicolon r)
spell free_rest x r = a_word false x.0 (words_pieces x.1 (a_mark mark.Semicolon (closes x.2 ∷ r)))
spell (abbr_rest v) x r = a_word false x.0 (a_mark mark.Equals (ty_pieces 1 x.1 (a_mark mark.Semicolon (closes x.2 ∷ r))))
spell (decl v) x r = decl_pieces x r
spell (decls_item v) x r = item_decl x r
spell (decls v) x r = decls_pieces x.0 (a_reserved word.Process r)
spell act_rest x r = a_number x.0 (a_mark mark.Semicolon (closes x.1 ∷ r))
spell talk_rest x r = a_number x.0 (a_number x.1 (a_mark mark.Semicolon (closes x.2 ∷ r)))
spell steps_item x r = item_step x r
spell steps x r = steps_pieces x.0 r
spell (deriv v n) x r = deriv_pieces n x r
spell (opponent_tail v) x r = opponent_pieces x r
spell schedule_tail x r = schedule_pieces x r
spell (derivation_tail v) x r = derivation_pieces x r
spell (body v) x r = body_pieces x r
spell file x r = file_pieces x r

abbrev pub spell_all : (l : List Sym) → Trees l → List Piece → List Piece
spell_all [] xs r = r
spell_all (a ∷ l) xs r = spell a xs.0 (spell_all l xs.1 r)

-- a derivation that is formed, with its rules
abbrev mutual
  pub IsRuled : Bool → t.Deriv → Type 0
  IsRuled later (t.rule s w es ds) = (arity_of later w.word ≡ Some (count_derivs ds)) × (writes_effect w.word ≡ is_written es) × IsWritten later es × AreRuled later ds

  pub AreRuled : Bool → t.Derivs → Type 0
  AreRuled later t.no_derivs = Unit {0}
  AreRuled later (t.more_derivs d ds) = IsRuled later d × AreRuled later ds

abbrev pub IsRest : Bool → Place → Option t.Proc → Type 0
IsRest v a o = IfSome o (IsProc v a)

abbrev pub IsMsgItem : Bool → Bool → ListItem t.Msg (Unit {0}) → Type 0
IsMsgItem v d (one m) = IsMsg v d m
IsMsgItem v d (last e) = Unit {0}

abbrev pub IsAtomItem : Bool → Bool → ListItem t.Atom (Unit {0}) → Type 0
IsAtomItem v d (one e) = IsAtom v d e
IsAtomItem v d (last x) = Unit {0}

abbrev pub IsFieldItem : Bool → ListItem t.Field t.Last → Type 0
IsFieldItem v (one f) = IsTy v f.ty
IsFieldItem v (last l) = IsLast v l

abbrev pub AreParts : Bool → List t.Field × t.Last → Type 0
AreParts v x = AreFields v (t.fields_of_list x.0) × IsLast v x.1

abbrev pub AreMoreParts : Bool → Option (List t.Field × t.Last) → Type 0
AreMoreParts v o = IfSome o (AreParts v)

abbrev pub IsDeclItem : Bool → ListItem t.Declared (Unit {0}) → Type 0
IsDeclItem v (one d) = IsDeclared v d
IsDeclItem v (last e) = Unit {0}

abbrev pub IsBody : Bool → Body → Type 0
IsBody v b = AreDeclared v b.decls × IsProc v (at_level 0) b.process × IsFormedOpponent v b.opponent × IfSome b.derivation (IsRuled v)

abbrev pub body_in : t.File → Body
body_in f = record { decls = f.decls; process = f.process; opponent = f.opponent; schedule = f.schedule; derivation = f.derivation }

-- a formed file, but for its words
pub record IsRuledFile (f : t.File) : Type 0 where
  pub version : (f.version ≡ 1) ⊎ (f.version ≡ 2)
  pub body : IsBody (is_later f) (body_in f)

abbrev pub Formed : (a : Sym) → Tree a → Type 0
Formed (msg v d n) x = IsMsg v d x
Formed (msgs_item v d n) x = IsMsgItem v d x
Formed (msgs v d n) x = AreMsgs v d (t.msgs_of_list x.0)
Formed (atom v d n) x = IsAtom v d x
Formed (atoms_item v d n) x = IsAtomItem v d x
Formed (atoms v d n) x = AreAtoms v d x.0
Formed (effect v d n) x = AreAtoms v d x
Formed (ty v n) x = IsTy v x
Formed (fields_item v n) x = IsFieldItem v x
Formed (fields v n) x = AreParts v x
Formed (fields_more v n) x = AreMoreParts v x
Formed (named v) x = IsTy v x.1
Formed (binder v) x = IsTy v x.1
Formed (split_head v) x = IsTy v x.1 × IsTy v x.3
Formed (match_head v) x = IsTy v x.1 × IsMsg v false x.2 × IsTy v x.4
Formed (case_head v w) x = IsTy v x.1
Formed (decrypt_head v) x = IsTy v x.1 × IsMsg v false x.2
Formed (check_head v) x = IsMsg v false x
Formed (cast_head v) x = IsTy v x.1
Formed (sproc v n) x = IsProc v (at_level n) x
Formed (seq v n) x = IsProc v (in_seq n) x
Formed (out_tail v n) x = IsRest v (in_seq (n + 1)) x
Formed (par_tail v n) x = IsRest v (at_level (n + 1)) x
Formed (abbr_rest v) x = IsTy v x.1
Formed (decl v) x = IsDeclared v x
Formed (decls_item v) x = IsDeclItem v x
Formed (decls v) x = AreDeclared v x.0
Formed (deriv v n) x = IsRuled v x
Formed (opponent_tail v) x = IsFormedOpponent v x
Formed (derivation_tail v) x = IfSome x (IsRuled v)
Formed (body v) x = IsBody v x
Formed file x = IsRuledFile x
Formed _ x = Unit {0}

abbrev pub FormedAll : (l : List Sym) → Trees l → Type 0
FormedAll [] xs = Unit {0}
FormedAll (a ∷ l) xs = Formed a xs.0 × FormedAll l xs.1
