-- The place of a fault is where a node or a word of the tree starts: so does the span of each point.
use Rattle.std.proofs.Common.{◌≡◌, ℕ, ◌+◌, List, [], ◌∷◌, ◌++◌, length, ⊎_elim, sym, ap, subst, Bool, true, false}
use Rattle.std.specs.Prelude.{⊤, Option, Some, None, nat_lt, is_some, if◌then◌else◌}
use Rattle.spi_text.specs.declared.lines.Span.{Span}
use Rattle.spi_tree.specs.declared.tree.SWord.{SWord}
use Rattle.spi_tree.specs.Trees as t
use Rattle.spi_tree.specs.Pieces.{Piece, opens, msg_pieces, msgs_pieces, atom_pieces, atoms_pieces, effect_pieces, ty_pieces, fields_pieces, last_pieces, Place, in_seq, at_level, below, beside_place, level_of, binder_pieces, proc_pieces, words_pieces, decl_pieces, decls_pieces, steps_pieces, written_pieces, deriv_pieces, derivs_pieces, opponent_pieces, schedule_pieces, derivation_pieces, file_pieces}
use Rattle.spi_term.specs.Lists.{In, in_first, in_later}
use Rattle.spi_term.proofs.Lists.{in_cases, in_append}
use Rattle.spi_scope.specs.declared.fault.ScopeFault.{ScopeFault}
use Rattle.spi_scope.specs.Scope.{Names, number_of, Abbreviations, type_of}
use Rattle.spi_scope.specs.Meaning.{behind}
use Rattle.spi_scope.specs.Points.{Point, uses_name, uses_type, declares_name, declares_type, ends_message, ends_type, adds, starts_step, Points, none, one, ◌⨾◌, in_order, fault_at, msg_span, ty_span, message_points, messages_points, message_points_whole, atom_points, atoms_points, type_points, fields_points, last_points, whole_type, part, message_head, messages_head, typed_head, new_head, tested_head, split_head, match_head, process_points, free_points, decl_points, decls_points, names_behind, types_behind, opponent_points, steps_points, schedule_points, numbered_atom_points, numbered_atoms_points, written_points, deriv_points, derivs_points, derivation_points, all_names, all_types, file_points}
use Rattle.spi_scope.specs.First.{count_points, HasFirst}
use Rattle.spi_scope.specs.FaultPlaces.{span_from}

-- the pieces of the whole, from some piece on
pub data Tail (whole : List Piece) : List Piece → Type 0 where
  all : Tail whole whole
  drop : {p : Piece} {r : List Piece} → Tail whole (p ∷ r) → Tail whole r

in_tail : {whole r : List Piece} {x : Piece} → Tail whole r → In x r → In x whole
in_tail all i = i
in_tail (drop h) i = in_tail h (in_later i)

here : {whole r : List Piece} {x : Piece} → Tail whole (x ∷ r) → In x whole
here h = in_tail h in_first

-- where the span of a point starts
abbrev pub point_from : Point → ℕ
point_from (uses_name xs w) = w.span.from
point_from (uses_type ts w) = w.span.from
point_from (declares_name xs w) = w.span.from
point_from (declares_type ts w) = w.span.from
point_from (ends_message n s) = s.from
point_from (ends_type n s) = s.from
point_from (adds n s) = s.from
point_from (starts_step i n s) = s.from

-- each point's span starts where a piece opens
abbrev pub StartAtOpenings : List Piece → Points → Type 0
StartAtOpenings whole none = ⊤
StartAtOpenings whole (one p) = In (opens (point_from p)) whole
StartAtOpenings whole (ps ⨾ qs) = StartAtOpenings whole ps × StartAtOpenings whole qs

msg_start : {whole : List Piece} (n : ℕ) (m : t.Msg) (r : List Piece) → Tail whole (msg_pieces n m r) → In (opens (msg_span m).from) whole
msg_start n (t.name s w) r h = here h
msg_start n (t.unit s) r h = here h
msg_start n (t.tuple s a b ms) r h = here h
msg_start n (t.inl s a) r h = here h
msg_start n (t.inr s a) r h = here h
msg_start n (t.enc s a b) r h = here h
msg_start n (t.hash s a) r h = here h
msg_start n (t.num s i) r h = here h

ty_start : {whole : List Piece} (n : ℕ) (a : t.Ty) (r : List Piece) → Tail whole (ty_pieces n a r) → In (opens (ty_span a).from) whole
ty_start n (t.un s) r h = here h
ty_start n (t.unit_ty s) r h = here h
ty_start n (t.tuple_ty s w a fs l) r h = here h
ty_start n (t.sum s a b) r h = here h
ty_start n (t.key s a) r h = here h
ty_start n (t.nonce s es) r h = here h
ty_start n (t.abbr s w) r h = here h

mutual
  msg_open : {whole : List Piece} (n : ℕ) (xs : Names) (m : t.Msg) (r : List Piece) → Tail whole (msg_pieces n m r) → StartAtOpenings whole (message_points xs m) × Tail whole r
  msg_open n xs (t.name s w) r h = (here (drop h), drop (drop (drop (drop (drop h)))))
  msg_open n xs (t.unit s) r h = (tt, drop (drop (drop (drop h))))
  msg_open n xs (t.tuple s a b ms) r h =
      let i = msg_open (n + 1) xs a _ (drop (drop h)) in
      let j = msg_open (n + 1) xs b _ (drop i.1) in
      let k = msgs_open (n + 1) xs ms _ j.1 in
      ((i.0, (j.0, k.0)), drop (drop k.1))
  msg_open n xs (t.inl s a) r h = let i = msg_open (n + 1) xs a _ (drop (drop h)) in (i.0, drop i.1)
  msg_open n xs (t.inr s a) r h = let i = msg_open (n + 1) xs a _ (drop (drop h)) in (i.0, drop i.1)
  msg_open n xs (t.enc s a b) r h =
      let i = msg_open (n + 1) xs a _ (drop (drop h)) in
      let j = msg_open (n + 1) xs b _ (drop i.1) in
      ((i.0, j.0), drop j.1)
  msg_open n xs (t.hash s a) r h = let i = msg_open (n + 1) xs a _ (drop (drop (drop h))) in (i.0, drop (drop i.1))
  msg_open n xs (t.num s i) r h = (tt, drop (drop (drop (drop h))))

  msgs_open : {whole : List Piece} (n : ℕ) (xs : Names) (ms : t.Msgs) (r : List Piece) → Tail whole (msgs_pieces n ms r) → StartAtOpenings whole (messages_points xs ms) × Tail whole r
  msgs_open n xs t.no_msgs r h = (tt, h)
  msgs_open n xs (t.more_msgs m ms) r h =
      let i = msg_open n xs m _ (drop h) in
      let j = msgs_open n xs ms r i.1 in
      ((i.0, j.0), j.1)

-- an outermost message, or that of an atom
whole_open : {whole : List Piece} (n : ℕ) (xs : Names) (m : t.Msg) (r : List Piece) → Tail whole (msg_pieces n m r) → StartAtOpenings whole (message_points_whole xs m) × Tail whole r
whole_open n xs m r h = let i = msg_open n xs m r h in ((i.0, msg_start n m r h), i.1)

atom_open : {whole : List Piece} (n : ℕ) (xs : Names) (e : t.Atom) (r : List Piece) → Tail whole (atom_pieces n e r) → StartAtOpenings whole (atom_points xs e) × Tail whole r
atom_open n xs (t.ends s m) r h = let i = whole_open (n + 1) xs m _ (drop (drop h)) in (i.0, drop i.1)
atom_open n xs (t.checks s m) r h = let i = whole_open (n + 1) xs m _ (drop (drop h)) in (i.0, drop i.1)
atom_open n xs (t.many s m) r h = let i = whole_open (n + 1) xs m _ (drop (drop h)) in (i.0, drop i.1)

atoms_open : {whole : List Piece} (n : ℕ) (xs : Names) (es : List t.Atom) (r : List Piece) → Tail whole (atoms_pieces n es r) → StartAtOpenings whole (atoms_points xs es) × Tail whole r
atoms_open n xs [] r h = (tt, h)
atoms_open n xs (e ∷ es) r h =
    let i = atom_open n xs e _ (drop h) in
    let j = atoms_open n xs es r i.1 in
    ((i.0, j.0), j.1)

effect_open : {whole : List Piece} (n : ℕ) (xs : Names) (es : List t.Atom) (r : List Piece) → Tail whole (effect_pieces n es r) → StartAtOpenings whole (atoms_points xs es) × Tail whole r
effect_open n xs [] r h = (tt, drop (drop h))
effect_open n xs (e ∷ es) r h =
    let i = atom_open n xs e _ (drop h) in
    let j = atoms_open n xs es _ i.1 in
    ((i.0, j.0), drop j.1)

-- past a word and the colon behind it
past_word : {whole r : List Piece} {a b c d : Piece} → Tail whole (a ∷ b ∷ c ∷ d ∷ r) → Tail whole r
past_word h = drop (drop (drop (drop h)))

mutual
  ty_open : {whole : List Piece} (n : ℕ) (ts : Abbreviations) (xs : Names) (a : t.Ty) (r : List Piece) → Tail whole (ty_pieces n a r) → StartAtOpenings whole (type_points ts xs a) × Tail whole r
  ty_open n ts xs (t.un s) r h = (tt, drop (drop (drop h)))
  ty_open n ts xs (t.unit_ty s) r h = (tt, drop (drop (drop (drop h))))
  ty_open n ts xs (t.tuple_ty s w a fs l) r h =
      let i = ty_open (n + 1) ts xs a _ (past_word (drop (drop h))) in
      let j = fields_open (n + 1) ts (w.word ∷ xs) fs _ (drop i.1) in
      let k = last_open (n + 1) ts (behind (w.word ∷ xs) fs) l _ j.1 in
      ((i.0, (j.0, k.0)), drop (drop k.1))
  ty_open n ts xs (t.sum s a b) r h =
      let i = ty_open (n + 1) ts xs a _ (drop (drop h)) in
      let j = ty_open (n + 1) ts xs b _ (drop i.1) in
      ((i.0, j.0), drop (drop j.1))
  ty_open n ts xs (t.key s a) r h = let i = ty_open (n + 1) ts xs a _ (drop (drop (drop h))) in (i.0, drop (drop i.1))
  ty_open n ts xs (t.nonce s es) r h = let i = effect_open (n + 1) xs es _ (drop (drop h)) in (i.0, drop i.1)
  ty_open n ts xs (t.abbr s w) r h = (here (drop h), drop (drop (drop (drop (drop h)))))

  fields_open : {whole : List Piece} (n : ℕ) (ts : Abbreviations) (xs : Names) (fs : t.Fields) (r : List Piece) → Tail whole (fields_pieces n fs r) → StartAtOpenings whole (fields_points ts xs fs) × Tail whole r
  fields_open n ts xs t.no_fields r h = (tt, h)
  fields_open n ts xs (t.more_fields w a fs) r h =
      let i = ty_open n ts xs a _ (past_word h) in
      let j = fields_open n ts (w.word ∷ xs) fs r (drop i.1) in
      ((i.0, j.0), j.1)

  last_open : {whole : List Piece} (n : ℕ) (ts : Abbreviations) (xs : Names) (l : t.Last) (r : List Piece) → Tail whole (last_pieces n l r) → StartAtOpenings whole (last_points ts xs l) × Tail whole r
  last_open n ts xs (t.bare a) r h = ty_open n ts xs a r h
  last_open n ts xs (t.named w a) r h = ty_open n ts xs a r (past_word h)

type_open : {whole : List Piece} (ts : Abbreviations) (xs : Names) (a : t.Ty) (r : List Piece) → Tail whole (ty_pieces 1 a r) → StartAtOpenings whole (whole_type ts xs a) × Tail whole r
unfolding whole_type
type_open ts xs a r h = let i = ty_open 1 ts xs a r h in (((i.0, ty_start 1 a r h), ty_start 1 a r h), i.1)

part_open : {whole : List Piece} (xs : Names) (m : t.Msg) (r : List Piece) → Tail whole (msg_pieces 1 m r) → StartAtOpenings whole (part xs m) × Tail whole r
unfolding part
part_open xs m r h = let i = whole_open 1 xs m r h in ((i.0, msg_start 1 m r h), i.1)

one_part : {whole : List Piece} (xs : Names) (s : Span) (m : t.Msg) → In (opens s.from) whole → StartAtOpenings whole (part xs m) → StartAtOpenings whole (message_head xs s m)
unfolding message_head
one_part xs s m i j = (i, j)

two_parts : {whole : List Piece} (xs : Names) (s : Span) (m n : t.Msg) → In (opens s.from) whole → StartAtOpenings whole (part xs m) → StartAtOpenings whole (part xs n) → StartAtOpenings whole (messages_head xs s m n)
unfolding messages_head
two_parts xs s m n i j k = (i, (j, k))

typed_part : {whole : List Piece} (ts : Abbreviations) (xs : Names) (s : Span) (m : t.Msg) (a : t.Ty) → In (opens s.from) whole → StartAtOpenings whole (part xs m) → StartAtOpenings whole (whole_type ts xs a)
    → StartAtOpenings whole (typed_head ts xs s m a)
unfolding typed_head
typed_part ts xs s m a i j k = (i, (j, k))

new_part : {whole : List Piece} (ts : Abbreviations) (xs : Names) (s : Span) (a : t.Ty) → In (opens s.from) whole → StartAtOpenings whole (whole_type ts xs a) → StartAtOpenings whole (new_head ts xs s a)
unfolding new_head
new_part ts xs s a i j = (i, j)

tested_part : {whole : List Piece} (ts : Abbreviations) (xs : Names) (s : Span) (m : t.Msg) (a : t.Ty) (n : t.Msg) → In (opens s.from) whole → StartAtOpenings whole (part xs m)
    → StartAtOpenings whole (whole_type ts xs a) → StartAtOpenings whole (part xs n) → StartAtOpenings whole (tested_head ts xs s m a n)
unfolding tested_head
tested_part ts xs s m a n i j k l = (i, (j, (k, l)))

split_part : {whole : List Piece} (ts : Abbreviations) (xs : Names) (s : Span) (m : t.Msg) (x : SWord) (a c : t.Ty) → In (opens s.from) whole → StartAtOpenings whole (part xs m)
    → StartAtOpenings whole (whole_type ts xs a) → StartAtOpenings whole (whole_type ts (x.word ∷ xs) c) → StartAtOpenings whole (split_head ts xs s m x a c)
unfolding split_head
split_part ts xs s m x a c i j k l = (i, (j, (k, l)))

match_part : (whole : List Piece) (ts : Abbreviations) (xs : Names) (s : Span) (m : t.Msg) (x : SWord) (a : t.Ty) (n : t.Msg) (c : t.Ty) → StartAtOpenings whole (tested_head ts xs s m a n)
    → StartAtOpenings whole (whole_type ts (x.word ∷ xs) c) → StartAtOpenings whole (match_head ts xs s m x a n c)
unfolding match_head
match_part whole ts xs s m x a n c i j = (i, j)

-- past a name with its type in parentheses and the semicolon
binder_open : {whole : List Piece} (ts : Abbreviations) (xs : Names) (w : SWord) (a : t.Ty) (r : List Piece) → Tail whole (binder_pieces w a r) → StartAtOpenings whole (whole_type ts xs a) × Tail whole r
binder_open ts xs w a r h = let i = type_open ts xs a _ (past_word (drop h)) in (i.0, drop (drop i.1))

proc_open : {whole : List Piece} (at : Place) (ts : Abbreviations) (xs : Names) (p : t.Proc) (r : List Piece) → Tail whole (proc_pieces at p r) → StartAtOpenings whole (process_points ts xs p) × Tail whole r
proc_open at ts xs (t.par s p q) r h =
    let i = proc_open (in_seq (level_of at + 1)) ts xs p _ (drop h) in
    let j = proc_open (at_level (level_of at + 1)) ts xs q _ (drop i.1) in
    ((i.0, (here h, j.0)), drop j.1)
proc_open at ts xs (t.out s m n) r h =
    let i = part_open xs m _ (drop (drop h)) in
    let j = part_open xs n _ i.1 in
    (two_parts xs s m n (here h) i.0 j.0, drop j.1)
proc_open at ts xs (t.out_then s m n p) r h =
    let i = part_open xs m _ (drop (drop h)) in
    let j = part_open xs n _ i.1 in
    let k = proc_open (below at) ts xs p _ (drop j.1) in
    ((two_parts xs s m n (here h) i.0 j.0, (here h, k.0)), drop k.1)
proc_open at ts xs (t.inp s m x a p) r h =
    let i = part_open xs m _ (drop (drop h)) in
    let j = binder_open ts xs x a _ i.1 in
    let k = proc_open (below at) ts (x.word ∷ xs) p _ j.1 in
    ((typed_part ts xs s m a (here h) i.0 j.0, k.0), drop k.1)
proc_open at ts xs (t.repeat s m x a p) r h =
    let i = part_open xs m _ (drop (drop (drop h))) in
    let j = binder_open ts xs x a _ i.1 in
    let k = proc_open (below at) ts (x.word ∷ xs) p _ j.1 in
    ((typed_part ts xs s m a (here h) i.0 j.0, k.0), drop k.1)
proc_open at ts xs (t.split s m x a y c p) r h =
    let i = part_open xs m _ (drop (drop h)) in
    let j = type_open ts xs a _ (past_word (drop (drop i.1))) in
    let k = type_open ts (x.word ∷ xs) c _ (past_word (drop j.1)) in
    let l = proc_open (below at) ts (y.word ∷ x.word ∷ xs) p _ (drop (drop k.1)) in
    ((split_part ts xs s m x a c (here h) i.0 j.0 k.0, l.0), drop l.1)
proc_open at ts xs (t.match s m x a n y c p) r h =
    let i = part_open xs m _ (drop (drop h)) in
    let j = type_open ts xs a _ (past_word (drop (drop i.1))) in
    let k = part_open xs n _ (drop j.1) in
    let l = type_open ts (x.word ∷ xs) c _ (past_word (drop k.1)) in
    let o = proc_open (below at) ts (y.word ∷ xs) p _ (drop (drop l.1)) in
    ((match_part _ ts xs s m x a n c (tested_part ts xs s m a n (here h) i.0 j.0 k.0) l.0, o.0), drop o.1)
proc_open at ts xs (t.case s m x a p y c q) r h =
    let i = part_open xs m _ (drop (drop h)) in
    let j = binder_open ts xs x a _ (drop (drop i.1)) in
    let k = proc_open (below at) ts (x.word ∷ xs) p _ j.1 in
    let l = binder_open ts xs y c _ (drop (drop k.1)) in
    let o = proc_open (below at) ts (y.word ∷ xs) q _ l.1 in
    ((typed_part ts xs s m a (here h) i.0 j.0, (k.0, (l.0, o.0))), drop o.1)
proc_open at ts xs (t.decrypt s m x a n p) r h =
    let i = part_open xs m _ (drop (drop h)) in
    let j = type_open ts xs a _ (past_word (drop (drop i.1))) in
    let k = part_open xs n _ (drop j.1) in
    let l = proc_open (below at) ts (x.word ∷ xs) p _ (drop k.1) in
    ((tested_part ts xs s m a n (here h) i.0 j.0 k.0, l.0), drop l.1)
proc_open at ts xs (t.check s m n p) r h =
    let i = part_open xs m _ (drop (drop h)) in
    let j = part_open xs n _ (drop i.1) in
    let k = proc_open (below at) ts xs p _ (drop j.1) in
    ((two_parts xs s m n (here h) i.0 j.0, k.0), drop k.1)
proc_open at ts xs (t.begin s m p) r h =
    let i = part_open xs m _ (drop (drop h)) in
    let j = proc_open (below at) ts xs p _ (drop i.1) in
    ((one_part xs s m (here h) i.0, j.0), drop j.1)
proc_open at ts xs (t.end s m p) r h =
    let i = part_open xs m _ (drop (drop h)) in
    let j = proc_open (below at) ts xs p _ (drop i.1) in
    ((one_part xs s m (here h) i.0, j.0), drop j.1)
proc_open at ts xs (t.end_many s m p) r h =
    let i = part_open xs m _ (drop (drop h)) in
    let j = proc_open (below at) ts xs p _ (drop i.1) in
    ((one_part xs s m (here h) i.0, j.0), drop j.1)
proc_open at ts xs (t.cast s m x a p) r h =
    let i = part_open xs m _ (drop (drop h)) in
    let j = binder_open ts xs x a _ (drop i.1) in
    let k = proc_open (below at) ts (x.word ∷ xs) p _ j.1 in
    ((typed_part ts xs s m a (here h) i.0 j.0, k.0), drop k.1)
proc_open at ts xs (t.new s x a p) r h =
    let i = binder_open ts xs x a _ (drop (drop h)) in
    let j = proc_open (below at) ts (x.word ∷ xs) p _ i.1 in
    ((new_part ts xs s a (here h) i.0, j.0), drop j.1)
proc_open at ts xs (t.stop s) r h = (here h, drop (drop (drop h)))
proc_open at ts xs (t.group s p q) r h =
    let i = proc_open (below at) ts xs p _ (drop (drop h)) in
    let j = proc_open (beside_place at) ts xs q _ (drop i.1) in
    ((i.0, (here h, j.0)), drop (drop j.1))

-- declarations
words_open : {whole : List Piece} (xs : Names) (ws : List SWord) (r : List Piece) → Tail whole (words_pieces ws r) → StartAtOpenings whole (free_points xs ws) × Tail whole r
words_open xs [] r h = (tt, h)
words_open xs (w ∷ ws) r h =
    let i = words_open (w.word ∷ xs) ws r (drop (drop (drop (drop h)))) in
    (((here (drop h), here (drop h)), i.0), i.1)

decl_open : {whole : List Piece} (ts : Abbreviations) (xs : Names) (d : t.Declared) (r : List Piece) → Tail whole (decl_pieces d r) → StartAtOpenings whole (decl_points ts xs d) × Tail whole r
decl_open ts xs (t.free s w ws) r h =
    let g = drop (drop h) in
    let i = words_open (w.word ∷ xs) ws _ (drop (drop (drop g))) in
    (((here g, here g), i.0), drop (drop i.1))
decl_open ts xs (t.abbreviated s w a) r h =
    let g = drop (drop h) in
    let i = type_open ts xs a _ (past_word g) in
    ((here g, i.0), drop (drop i.1))

decls_open : {whole : List Piece} (ts : Abbreviations) (xs : Names) (ds : List t.Declared) (r : List Piece) → Tail whole (decls_pieces ds r) → StartAtOpenings whole (decls_points ts xs ds) × Tail whole r
decls_open ts xs [] r h = (tt, h)
decls_open ts xs (d ∷ ds) r h =
    let i = decl_open ts xs d _ h in
    let j = decls_open (types_behind ts xs d) (names_behind xs d) ds r i.1 in
    ((i.0, j.0), j.1)

-- schedules
steps_open : {whole : List Piece} (i n : ℕ) (xs : List t.Step) (r : List Piece) → Tail whole (steps_pieces xs r) → StartAtOpenings whole (steps_points i n xs) × Tail whole r
steps_open i n [] r h = (tt, h)
steps_open i n (t.act s k ∷ xs) r h =
    let j = steps_open (i + 1) n xs r (drop (drop (drop (drop (drop h))))) in
    ((here h, j.0), j.1)
steps_open i n (t.talk s k l ∷ xs) r h =
    let j = steps_open (i + 1) n xs r (drop (drop (drop (drop (drop (drop h)))))) in
    ((here h, j.0), j.1)

-- derivations
past_msg : {whole : List Piece} (n : ℕ) (m : t.Msg) (r : List Piece) → Tail whole (msg_pieces n m r) → Tail whole r
past_msg n m r h = (msg_open n [] m r h).1

numbered_open : {whole : List Piece} (n : ℕ) (e : t.Atom) (r : List Piece) → Tail whole (atom_pieces n e r) → StartAtOpenings whole (numbered_atom_points e) × Tail whole r
numbered_open n (t.ends s m) r h = let g = drop (drop h) in (msg_start (n + 1) m _ g, drop (past_msg (n + 1) m _ g))
numbered_open n (t.checks s m) r h = let g = drop (drop h) in (msg_start (n + 1) m _ g, drop (past_msg (n + 1) m _ g))
numbered_open n (t.many s m) r h = let g = drop (drop h) in (msg_start (n + 1) m _ g, drop (past_msg (n + 1) m _ g))

numbereds_open : {whole : List Piece} (n : ℕ) (es : List t.Atom) (r : List Piece) → Tail whole (atoms_pieces n es r) → StartAtOpenings whole (numbered_atoms_points es) × Tail whole r
numbereds_open n [] r h = (tt, h)
numbereds_open n (e ∷ es) r h =
    let i = numbered_open n e _ (drop h) in
    let j = numbereds_open n es r i.1 in
    ((i.0, j.0), j.1)

written_open : {whole : List Piece} (es : Option (List t.Atom)) (r : List Piece) → Tail whole (written_pieces es r) → StartAtOpenings whole (written_points es) × Tail whole r
written_open None r h = (tt, h)
written_open (Some []) r h = (tt, drop (drop h))
written_open (Some (e ∷ es)) r h =
    let i = numbered_open 0 e _ (drop h) in
    let j = numbereds_open 0 es _ i.1 in
    ((i.0, j.0), drop j.1)

mutual
  deriv_open : {whole : List Piece} (n : ℕ) (d : t.Deriv) (r : List Piece) → Tail whole (deriv_pieces n d r) → StartAtOpenings whole (deriv_points d) × Tail whole r
  deriv_open n (t.rule s w es ds) r h =
      let i = written_open es _ (drop (drop (drop (drop h)))) in
      let j = derivs_open (n + 1) ds _ i.1 in
      ((i.0, j.0), drop j.1)

  derivs_open : {whole : List Piece} (n : ℕ) (ds : t.Derivs) (r : List Piece) → Tail whole (derivs_pieces n ds r) → StartAtOpenings whole (derivs_points ds) × Tail whole r
  derivs_open n t.no_derivs r h = (tt, h)
  derivs_open n (t.more_derivs d ds) r h =
      let i = deriv_open n d _ h in
      let j = derivs_open n ds r i.1 in
      ((i.0, j.0), j.1)

-- the parts of a file
version_open : {whole : List Piece} (b : Bool) (k l m : Piece) (r : List Piece) → Tail whole (if b then k ∷ l ∷ m ∷ r else r) → Tail whole r
version_open true k l m r h = drop (drop (drop h))
version_open false k l m r h = h

opponent_open : {whole : List Piece} (ts : Abbreviations) (xs : Names) (o : Option t.Proc) (r : List Piece) → Tail whole (opponent_pieces o r) → StartAtOpenings whole (opponent_points ts xs o) × Tail whole r
opponent_open ts xs None r h = (tt, h)
opponent_open ts xs (Some p) r h = proc_open (at_level 0) ts xs p r (drop h)

schedule_open : {whole : List Piece} (o : Option (List t.Step)) (r : List Piece) → Tail whole (schedule_pieces o r) → StartAtOpenings whole (schedule_points o) × Tail whole r
schedule_open None r h = (tt, h)
schedule_open (Some xs) r h = steps_open 1 (length xs) xs r (drop h)

derivation_open : {whole : List Piece} (o : Option t.Deriv) (r : List Piece) → Tail whole (derivation_pieces o r) → StartAtOpenings whole (derivation_points o) × Tail whole r
derivation_open None r h = (tt, h)
derivation_open (Some d) r h = deriv_open 1 d r (drop h)

file_open : (f : t.File) → StartAtOpenings (file_pieces f []) (file_points f)
file_open f =
    let a = version_open _ _ _ _ _ (drop all) in
    let b = decls_open [] [] f.decls _ a in
    let c = proc_open (at_level 0) (all_types [] [] f.decls) (all_names [] f.decls) f.process _ (drop b.1) in
    let d = opponent_open (all_types [] [] f.decls) (all_names [] f.decls) f.opponent _ c.1 in
    let e = schedule_open f.schedule _ d.1 in
    let g = derivation_open f.derivation _ e.1 in
    (b.0, (c.0, (d.0, (e.0, g.0))))

-- one point of these
one_opened : (whole : List Piece) (ps : Points) → StartAtOpenings whole ps → (p : Point) → In p (in_order ps) → In (opens (point_from p)) whole
one_opened whole none o p i = elim i [ ]
one_opened whole (one q) o p i = ⊎_elim (λ e. subst (λ x. In (opens (point_from x)) whole) (sym e) o) (λ j. elim j [ ]) (in_cases i)
one_opened whole (ps ⨾ qs) o p i = ⊎_elim (one_opened whole ps o.0 p) (one_opened whole qs o.1 p) (in_append (in_order ps) i)

-- what is wrong at a point has its place
unless_known : (b : Bool) (e f : ScopeFault) → (if b then None else Some e) ≡ Some f → e ≡ f
unless_known true e f h = absurd cc
unless_known false e f h = cc

where_true : (b : Bool) (e f : ScopeFault) → (if b then Some e else None) ≡ Some f → e ≡ f
where_true true e f h = cc
where_true false e f h = absurd cc

fault_place : (c : ℕ) (p : Point) (f : ScopeFault) → fault_at c p ≡ Some f → point_from p ≡ span_from f
fault_place c (uses_name xs w) f h = ap span_from (unless_known (is_some (number_of xs w.word)) _ f h)
fault_place c (uses_type ts w) f h = ap span_from (unless_known (is_some (type_of ts w.word)) _ f h)
fault_place c (declares_name xs w) f h = ap span_from (where_true (is_some (number_of xs w.word)) _ f h)
fault_place c (declares_type ts w) f h = ap span_from (where_true (is_some (type_of ts w.word)) _ f h)
fault_place c (ends_message n s) f h = ap span_from (where_true (nat_lt 200 n) _ f h)
fault_place c (ends_type n s) f h = ap span_from (where_true (nat_lt 1000 n) _ f h)
fault_place c (adds n s) f h = ap span_from (where_true (nat_lt 100000 (c + n)) _ f h)
fault_place c (starts_step i n s) f h = ap span_from (where_true (nat_lt 10000 i) _ f h)

in_middle : (xs ys : List Point) (p : Point) → In p (xs ++ p ∷ ys)
in_middle [] ys p = in_first
in_middle (x ∷ xs) ys p = in_later (in_middle xs ys p)

pub fault_opens : (tree : t.File) (f : ScopeFault) → HasFirst tree f → In (opens (span_from f)) (file_pieces tree [])
fault_opens tree f h =
    let i = subst (λ l. In h.at l) (sym h.cut) (in_middle h.before h.after h.at) in
    subst (λ x. In (opens x) (file_pieces tree [])) (fault_place (count_points h.before) h.at f h.wrong) (one_opened (file_pieces tree []) (file_points tree) (file_open tree) h.at i)
