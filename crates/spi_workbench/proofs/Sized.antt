-- The nodes of a tree are those that its points add.
use Rattle.std.proofs.Common.{◌≡◌, ℕ, ◌+◌, ◌-◌, suc, List, [], ◌∷◌, length, map, Bool, true, false, refl, sym, ap, ◌∙◌, arith}
use Rattle.std.specs.Prelude.{Option, Some, None, nat_lt, if◌then◌else◌}
use Rattle.std.specs.Option.{option_map}
use Rattle.indexmap.specs.IndexMap.{IndexMap}
use denote.Ref.{Bor}
use Rattle.spi_text.specs.declared.lines.Span.{Span}
use Rattle.spi_tree.specs.declared.tree.SWord.{SWord}
use Rattle.spi_tree.specs.Trees as t
use Rattle.spi_term.specs.Term.{name, bound, message_size, Ty}
use Rattle.spi_term.specs.Spelling.{atom_nodes, effect_nodes, ty_nodes, stopped}
use Rattle.spi_heading.specs.Headings.{Shared}
use Rattle.spi_scope.specs.Scope.{Word, Names, number_of, Abbreviations, type_of}
use Rattle.spi_scope.specs.Meaning.{name_meant, message_in, messages_in, atom_in, effect_in, known, type_in, fields_in, last_in, behind}
use Rattle.spi_scope.specs.Points.{message_points, messages_points, atom_points, atoms_points, type_points, fields_points, last_points, msg_nodes, type_nodes, whole_type, part, message_head, messages_head, typed_head, new_head, tested_head, split_head, match_head, process_points, free_points}
use Rattle.spi_scope.specs.State.{row_nodes, type_row_nodes}
use Rattle.spi_scope.proofs.Tuples.{nested_nodes, nested_types_nodes}
use Rattle.spi_edits.specs.Edits.{Edit as Written, puts, drops, Bench}
use Rattle.spi_edits.specs.Views.{edit_of}
use Rattle.spi_edits.specs.declared.text.Edit.{Edit}
use Rattle.spi_workbench.specs.Reading.{abbreviations_of, part_names}
use Rattle.spi_workbench.specs.Counting.{all_added, shared_points, edit_nodes}
use Rattle.spi_workbench.specs.Sizes.{known_nodes, nodes_in_words, msg_size, msgs_size, atom_size, atoms_size, ty_size, fields_size, last_size, proc_size, shared_size, edit_size, Know}

name_size : (k s : ℕ) (o : Option ℕ) → message_size (name_meant k s o) ≡ 1
name_size k s None = refl
name_size k s (Some x) = by (nat_lt x k)
  where
    by : (b : Bool) → message_size (if b then name x else bound (s - suc x)) ≡ 1
    by true = refl
    by false = refl

mutual
  pub msg_sized : (k : ℕ) (xs : Names) (m : t.Msg) → msg_size m ≡ message_size (message_in k xs m)
  msg_sized k xs (t.name s w) = sym (name_size k (length xs) (number_of xs w.word))
  msg_sized k xs (t.unit s) = refl
  msg_sized k xs (t.tuple s a b ms) =
      omega (arith, msg_sized k xs a, msg_sized k xs b, msgs_sized k xs ms, nested_nodes (message_in k xs a) (message_in k xs b ∷ messages_in k xs ms))
  msg_sized k xs (t.inl s a) = omega (arith, msg_sized k xs a)
  msg_sized k xs (t.inr s a) = omega (arith, msg_sized k xs a)
  msg_sized k xs (t.enc s a b) = omega (arith, msg_sized k xs a, msg_sized k xs b)
  msg_sized k xs (t.hash s a) = omega (arith, msg_sized k xs a)
  msg_sized k xs (t.num s i) = refl

  msgs_sized : (k : ℕ) (xs : Names) (ms : t.Msgs) → msgs_size ms ≡ row_nodes (messages_in k xs ms)
  msgs_sized k xs t.no_msgs = refl
  msgs_sized k xs (t.more_msgs m ms) = omega (arith, msg_sized k xs m, msgs_sized k xs ms)

atom_sized : (k : ℕ) (xs : Names) (a : t.Atom) → atom_size a ≡ atom_nodes (atom_in k xs a)
atom_sized k xs (t.ends s m) = omega (arith, msg_sized k xs m)
atom_sized k xs (t.checks s m) = omega (arith, msg_sized k xs m)
atom_sized k xs (t.many s m) = omega (arith, msg_sized k xs m)

atoms_sized : (k : ℕ) (xs : Names) (es : List t.Atom) → atoms_size es ≡ effect_nodes (effect_in k xs es)
atoms_sized k xs [] = refl
atoms_sized k xs (a ∷ es) = omega (arith, atom_sized k xs a, atoms_sized k xs es)

-- points inside messages and types add nothing
mutual
  msg_adds : (xs : Names) (m : t.Msg) → all_added (message_points xs m) ≡ 0
  msg_adds xs (t.name s w) = refl
  msg_adds xs (t.unit s) = refl
  msg_adds xs (t.tuple s a b ms) = omega (arith, msg_adds xs a, msg_adds xs b, msgs_add xs ms)
  msg_adds xs (t.inl s a) = msg_adds xs a
  msg_adds xs (t.inr s a) = msg_adds xs a
  msg_adds xs (t.enc s a b) = omega (arith, msg_adds xs a, msg_adds xs b)
  msg_adds xs (t.hash s a) = msg_adds xs a
  msg_adds xs (t.num s i) = refl

  msgs_add : (xs : Names) (ms : t.Msgs) → all_added (messages_points xs ms) ≡ 0
  msgs_add xs t.no_msgs = refl
  msgs_add xs (t.more_msgs m ms) = omega (arith, msg_adds xs m, msgs_add xs ms)

atom_adds : (xs : Names) (a : t.Atom) → all_added (atom_points xs a) ≡ 0
atom_adds xs (t.ends s m) = omega (arith, msg_adds xs m)
atom_adds xs (t.checks s m) = omega (arith, msg_adds xs m)
atom_adds xs (t.many s m) = omega (arith, msg_adds xs m)

atoms_add : (xs : Names) (es : List t.Atom) → all_added (atoms_points xs es) ≡ 0
atoms_add xs [] = refl
atoms_add xs (a ∷ es) = omega (arith, atom_adds xs a, atoms_add xs es)

mutual
  type_adds : (ts : Abbreviations) (xs : Names) (a : t.Ty) → all_added (type_points ts xs a) ≡ 0
  type_adds ts xs (t.un s) = refl
  type_adds ts xs (t.unit_ty s) = refl
  type_adds ts xs (t.tuple_ty s w a fs l) = omega (arith, type_adds ts xs a, fields_add ts (w.word ∷ xs) fs, last_adds ts (behind (w.word ∷ xs) fs) l)
  type_adds ts xs (t.sum s a b) = omega (arith, type_adds ts xs a, type_adds ts xs b)
  type_adds ts xs (t.key s a) = type_adds ts xs a
  type_adds ts xs (t.nonce s es) = atoms_add xs es
  type_adds ts xs (t.abbr s w) = refl

  fields_add : (ts : Abbreviations) (xs : Names) (fs : t.Fields) → all_added (fields_points ts xs fs) ≡ 0
  fields_add ts xs t.no_fields = refl
  fields_add ts xs (t.more_fields w a fs) = omega (arith, type_adds ts xs a, fields_add ts (w.word ∷ xs) fs)

  last_adds : (ts : Abbreviations) (xs : Names) (l : t.Last) → all_added (last_points ts xs l) ≡ 0
  last_adds ts xs (t.bare a) = type_adds ts xs a
  last_adds ts xs (t.named w a) = type_adds ts xs a

pub whole_type_adds : (ts : Abbreviations) (xs : Names) (a : t.Ty) → all_added (whole_type ts xs a) ≡ type_nodes ts xs a
unfolding whole_type
whole_type_adds ts xs a = omega (arith, type_adds ts xs a)

part_adds : (xs : Names) (m : t.Msg) → all_added (part xs m) ≡ msg_nodes xs m
unfolding part
part_adds xs m = omega (arith, msg_adds xs m)

pub new_head_adds : (ts : Abbreviations) (xs : Names) (s : Span) (a : t.Ty) → all_added (new_head ts xs s a) ≡ 1 + type_nodes ts xs a
unfolding new_head
new_head_adds ts xs s a = omega (arith, whole_type_adds ts xs a)

message_head_adds : (xs : Names) (s : Span) (m : t.Msg) → all_added (message_head xs s m) ≡ 1 + msg_nodes xs m
unfolding message_head
message_head_adds xs s m = omega (arith, part_adds xs m)

messages_head_adds : (xs : Names) (s : Span) (m n : t.Msg) → all_added (messages_head xs s m n) ≡ 1 + (msg_nodes xs m + msg_nodes xs n)
unfolding messages_head
messages_head_adds xs s m n = omega (arith, part_adds xs m, part_adds xs n)

typed_head_adds : (ts : Abbreviations) (xs : Names) (s : Span) (m : t.Msg) (a : t.Ty) → all_added (typed_head ts xs s m a) ≡ 1 + (msg_nodes xs m + type_nodes ts xs a)
unfolding typed_head
typed_head_adds ts xs s m a = omega (arith, part_adds xs m, whole_type_adds ts xs a)

tested_head_adds : (ts : Abbreviations) (xs : Names) (s : Span) (m : t.Msg) (a : t.Ty) (n : t.Msg) → all_added (tested_head ts xs s m a n) ≡ 1 + (msg_nodes xs m + type_nodes ts xs a) + msg_nodes xs n
unfolding tested_head
tested_head_adds ts xs s m a n = omega (arith, part_adds xs m, whole_type_adds ts xs a, part_adds xs n)

split_head_adds : (ts : Abbreviations) (xs : Names) (s : Span) (m : t.Msg) (x : SWord) (a c : t.Ty) → all_added (split_head ts xs s m x a c) ≡ 1 + (msg_nodes xs m + type_nodes ts xs a) + type_nodes ts (x.word ∷ xs) c
unfolding split_head
split_head_adds ts xs s m x a c = omega (arith, part_adds xs m, whole_type_adds ts xs a, whole_type_adds ts (x.word ∷ xs) c)

match_head_adds : (ts : Abbreviations) (xs : Names) (s : Span) (m : t.Msg) (x : SWord) (a : t.Ty) (n : t.Msg) (c : t.Ty) → all_added (match_head ts xs s m x a n c) ≡ 1 + (msg_nodes xs m + type_nodes ts xs a) + msg_nodes xs n + type_nodes ts (x.word ∷ xs) c
unfolding match_head
match_head_adds ts xs s m x a n c = omega (arith, tested_head_adds ts xs s m a n, whole_type_adds ts (x.word ∷ xs) c)

module _ {S : Type 0} (m : IndexMap (Bor (List ℕ)) ℕ S) (ts : Abbreviations) (know : Know m ts) where
  found : (o : Option Ty) → known_nodes (option_map (λ a. stopped (ty_nodes a)) o) ≡ stopped (ty_nodes (known o))
  found None = refl
  found (Some a) = refl

  abbreviation_sized : (w : Word) → nodes_in_words m w ≡ stopped (ty_nodes (known (type_of ts w)))
  abbreviation_sized w = ap known_nodes (know w) ∙ found (type_of ts w)

  mutual
    pub type_sized : (k : ℕ) (xs : Names) (a : t.Ty) → stopped (ty_size (nodes_in_words m) a) ≡ stopped (ty_nodes (type_in k ts xs a))
    type_sized k xs (t.un s) = refl
    type_sized k xs (t.unit_ty s) = refl
    type_sized k xs (t.tuple_ty s w a fs l) =
        let ys = w.word ∷ xs in
        omega (arith, type_sized k xs a, fields_sized k ys fs, last_sized k (behind ys fs) l, nested_types_nodes (type_in k ts xs a ∷ fields_in k ts ys fs) (last_in k ts (behind ys fs) l))
    type_sized k xs (t.sum s a b) = omega (arith, type_sized k xs a, type_sized k xs b)
    type_sized k xs (t.key s a) = omega (arith, type_sized k xs a)
    type_sized k xs (t.nonce s es) = omega (arith, atoms_sized k xs es)
    type_sized k xs (t.abbr s w) = omega (arith, abbreviation_sized w.word)

    fields_sized : (k : ℕ) (xs : Names) (fs : t.Fields) → stopped (fields_size (nodes_in_words m) fs) ≡ stopped (type_row_nodes (fields_in k ts xs fs))
    fields_sized k xs t.no_fields = refl
    fields_sized k xs (t.more_fields w a fs) = omega (arith, type_sized k xs a, fields_sized k (w.word ∷ xs) fs)

    last_sized : (k : ℕ) (xs : Names) (l : t.Last) → stopped (last_size (nodes_in_words m) l) ≡ stopped (ty_nodes (last_in k ts xs l))
    last_sized k xs (t.bare a) = type_sized k xs a
    last_sized k xs (t.named w a) = type_sized k xs a

  -- a process has as many nodes as its points add
  pub process_sized : (xs : Names) (p : t.Proc) → stopped (proc_size (nodes_in_words m) p) ≡ stopped (all_added (process_points ts xs p))
  process_sized xs (t.par s p q) = omega (arith, process_sized xs p, process_sized xs q)
  process_sized xs (t.out s a b) = omega (arith, messages_head_adds xs s a b, msg_sized 0 xs a, msg_sized 0 xs b)
  process_sized xs (t.out_then s a b p) = omega (arith, messages_head_adds xs s a b, msg_sized 0 xs a, msg_sized 0 xs b, process_sized xs p)
  process_sized xs (t.inp s a x c p) = omega (arith, typed_head_adds ts xs s a c, msg_sized 0 xs a, type_sized 0 xs c, process_sized (x.word ∷ xs) p)
  process_sized xs (t.repeat s a x c p) = omega (arith, typed_head_adds ts xs s a c, msg_sized 0 xs a, type_sized 0 xs c, process_sized (x.word ∷ xs) p)
  process_sized xs (t.split s a x c y d p) =
      omega (arith, split_head_adds ts xs s a x c d, msg_sized 0 xs a, type_sized 0 xs c, type_sized 0 (x.word ∷ xs) d, process_sized (y.word ∷ x.word ∷ xs) p)
  process_sized xs (t.match s a x c b y d p) =
      omega (arith, match_head_adds ts xs s a x c b d, msg_sized 0 xs a, type_sized 0 xs c, msg_sized 0 xs b, type_sized 0 (x.word ∷ xs) d, process_sized (y.word ∷ xs) p)
  process_sized xs (t.case s a x c p y d q) =
      omega (arith, typed_head_adds ts xs s a c, msg_sized 0 xs a, type_sized 0 xs c, process_sized (x.word ∷ xs) p, whole_type_adds ts xs d, type_sized 0 xs d, process_sized (y.word ∷ xs) q)
  process_sized xs (t.decrypt s a x c b p) =
      omega (arith, tested_head_adds ts xs s a c b, msg_sized 0 xs a, type_sized 0 xs c, msg_sized 0 xs b, process_sized (x.word ∷ xs) p)
  process_sized xs (t.check s a b p) = omega (arith, messages_head_adds xs s a b, msg_sized 0 xs a, msg_sized 0 xs b, process_sized xs p)
  process_sized xs (t.begin s a p) = omega (arith, message_head_adds xs s a, msg_sized 0 xs a, process_sized xs p)
  process_sized xs (t.end s a p) = omega (arith, message_head_adds xs s a, msg_sized 0 xs a, process_sized xs p)
  process_sized xs (t.end_many s a p) = omega (arith, message_head_adds xs s a, msg_sized 0 xs a, process_sized xs p)
  process_sized xs (t.cast s a x c p) = omega (arith, typed_head_adds ts xs s a c, msg_sized 0 xs a, type_sized 0 xs c, process_sized (x.word ∷ xs) p)
  process_sized xs (t.new s x c p) = omega (arith, new_head_adds ts xs s c, type_sized 0 xs c, process_sized (x.word ∷ xs) p)
  process_sized xs (t.stop s) = refl
  process_sized xs (t.group s p q) = omega (arith, process_sized xs p, process_sized xs q)

  pub shared_sized : (xs : Names) (ss : List Shared) → stopped (shared_size (nodes_in_words m) ss) ≡ stopped (all_added (shared_points ts xs ss))
  shared_sized xs [] = refl
  shared_sized xs (s ∷ ss) = omega (arith, new_head_adds ts xs s.span s.ty, type_sized 0 xs s.ty, shared_sized (s.name.word ∷ xs) ss)

pub edits_sized : {S : Type 0} (m : IndexMap (Bor (List ℕ)) ℕ S) (b : Bench) (es : List Edit) → Know m (abbreviations_of b) → map (λ e. stopped (edit_size (nodes_in_words m) (edit_of e))) es ≡ map (λ e. stopped (edit_nodes b (edit_of e))) es
edits_sized m b [] k = refl
edits_sized m b (e ∷ es) k = λ i. one (edit_of e) i ∷ edits_sized m b es k i
  where
    one : (x : Written) → stopped (edit_size (nodes_in_words m) x) ≡ stopped (edit_nodes b x)
    one (puts s w p) = process_sized m (abbreviations_of b) k (part_names b) p
    one (drops s w) = refl

pub free_added : (xs : Names) (ws : List SWord) → all_added (free_points xs ws) ≡ length ws
free_added xs [] = refl
free_added xs (w ∷ ws) = omega (arith, free_added (w.word ∷ xs) ws)
