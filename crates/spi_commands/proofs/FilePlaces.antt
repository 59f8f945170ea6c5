-- The nodes of a tree's process and of its opponent, and its steps, stand in the bytes that spell the tree.
use Rattle.std.proofs.Common.{◌≡◌, ⊎_elim, sym, subst, ℕ, ◌+◌, ◌≤◌, Bool, List, [], ◌∷◌, ◌++◌, length, map, Option, Some, None, refl, arith, if◌then◌else◌}
use Rattle.std.specs.Prelude.{slice_get}
use Rattle.spi_text.specs.declared.lines.Span.{Span}
use Rattle.spi_lex.proofs.Lexed.{lexed}
use Rattle.spi_tree.specs.declared.tree.SWord.{SWord}
use Rattle.spi_tree.specs.Trees as t
use Rattle.spi_tree.specs.Pieces.{Piece, opens, msg_pieces, ty_pieces, Place, in_seq, at_level, below, beside_place, level_of, binder_pieces, proc_pieces, decls_pieces, steps_pieces, opponent_pieces, schedule_pieces, file_pieces}
use Rattle.spi_parse.specs.Formed.{whole_file}
use Rattle.spi_term.specs.Lists.{In, in_first, in_later}
use Rattle.spi_term.proofs.Lists.{in_cases, in_append, get_in}
use Rattle.spi_scope.specs.Marks.{places}
use Rattle.spi_scope.specs.Parts.{step_span}
use Rattle.spi_scope.specs.Files.{opponent_places, step_places}
use Rattle.spi_scope.specs.Places.{or_nowhere, place_in}
use Rattle.spi_commands.specs.Spelled.{IsTreeOf}
use Rattle.spi_commands.specs.NoLine.{place_at}
use Rattle.spi_commands.specs.Beside.{opponent_at}
use Rattle.spi_commands.specs.Replays.{step_at}
use Rattle.spi_commands.proofs.FilePieces as Past
use Rattle.spi_commands.proofs.FileRefusals.{opens_within}

-- what stands behind a part stands behind its beginning too
module _ {x : Piece} where
  two : {a b : Piece} {r : List Piece} → In x r → In x (a ∷ b ∷ r)
  two i = in_later (in_later i)

  three : {a b c : Piece} {r : List Piece} → In x r → In x (a ∷ b ∷ c ∷ r)
  three i = in_later (two i)

  past_msg : (n : ℕ) (m : t.Msg) (r : List Piece) → In x r → In x (msg_pieces n m r)
  past_msg n m r i = Past.past_msg {P = λ r. In x r} (λ a r i. in_later i) n m r i

  past_ty : (n : ℕ) (a : t.Ty) (r : List Piece) → In x r → In x (ty_pieces n a r)
  past_ty n a r i = Past.past_ty {P = λ r. In x r} (λ a r i. in_later i) n a r i

  past_binder : (w : SWord) (a : t.Ty) (r : List Piece) → In x r → In x (binder_pieces w a r)
  past_binder w a r i = Past.past_binder {P = λ r. In x r} (λ a r i. in_later i) w a r i

  past_proc : (at : Place) (p : t.Proc) (r : List Piece) → In x r → In x (proc_pieces at p r)
  past_proc at p r i = Past.past_proc {P = λ r. In x r} (λ a r i. in_later i) at p r i

  past_decls : (ds : List t.Declared) (r : List Piece) → In x r → In x (decls_pieces ds r)
  past_decls ds r i = Past.past_decls {P = λ r. In x r} (λ a r i. in_later i) ds r i

  past_version : (b : Bool) (k l m : Piece) (r : List Piece) → In x r → In x (if b then k ∷ l ∷ m ∷ r else r)
  past_version b k l m r i = Past.past_version {P = λ r. In x r} (λ a r i. in_later i) b k l m r i

-- a node starts at the span's start, or is one of those inside
pub at_first : {s s' : Span} {ss : List Span} {r : List Piece} → In s (s' ∷ ss) → (In s ss → In (opens s.from) r) → In (opens s.from) (opens s'.from ∷ r)
at_first {s} {s'} {ss} {r} i f =
    ⊎_elim (λ (e : s ≡ s'). subst (λ (z : Span). In (opens z.from) (opens s'.from ∷ r)) (sym e) in_first) (λ (j : In s ss). in_later (f j)) (in_cases i)

twice : {s s' : Span} {ss : List Span} {r : List Piece} → In s (s' ∷ s' ∷ ss) → (In s ss → In (opens s.from) r) → In (opens s.from) (opens s'.from ∷ r)
twice {s} {s'} {ss} {r} i f =
    ⊎_elim (λ (e : s ≡ s'). subst (λ (z : Span). In (opens z.from) (opens s'.from ∷ r)) (sym e) in_first) (λ (j : In s (s' ∷ ss)). at_first j f) (in_cases i)

none : {s : Span} {r : List Piece} → In s [] → In (opens s.from) r
none i = elim i [ ]

pub either : {s : Span} (ss us : List Span) {r : List Piece} → In s (ss ++ us) → (In s ss → In (opens s.from) r) → (In s us → In (opens s.from) r) → In (opens s.from) r
either {s} ss us i f g = ⊎_elim (λ (j : In s ss). f j) (λ (j : In s us). g j) (in_append ss i)

node_in : (at : Place) (p : t.Proc) (s : Span) (r : List Piece) → In s (places p) → In (opens s.from) (proc_pieces at p r)
node_in at (t.par u p q) s r i =
    at_first i (λ j. either (places p) (places q) j (λ k. node_in (in_seq (level_of at + 1)) p s _ k) (λ k. past_proc (in_seq (level_of at + 1)) p _ (in_later (node_in (at_level (level_of at + 1)) q s _ k))))
node_in at (t.out u m n) s r i = at_first i none
node_in at (t.out_then u m n p) s r i =
    twice i (λ k. in_later (past_msg 1 m _ (past_msg 1 n _ (in_later (node_in (below at) p s _ k)))))
node_in at (t.inp u m w a p) s r i = at_first i (λ j. in_later (past_msg 1 m _ (past_binder w a _ (node_in (below at) p s _ j))))
node_in at (t.repeat u m w a p) s r i = at_first i (λ j. two (past_msg 1 m _ (past_binder w a _ (node_in (below at) p s _ j))))
node_in at (t.split u m w a y c p) s r i = at_first i (λ j. in_later (past_msg 1 m _ (two (three (in_later (past_ty 1 a _ (in_later (three (in_later (past_ty 1 c _ (two (node_in (below at) p s _ j))))))))))))
node_in at (t.match u m w a n y c p) s r i =
    at_first i (λ j. in_later (past_msg 1 m _ (two (three (in_later (past_ty 1 a _ (in_later (past_msg 1 n _ (in_later (three (in_later (past_ty 1 c _ (two (node_in (below at) p s _ j))))))))))))))
node_in at (t.case u m w a p y c q) s r i =
    at_first i (λ j. in_later (past_msg 1 m _ (two (past_binder w a _ (either (places p) (places q) j (λ k. node_in (below at) p s _ k) (λ k. past_proc (below at) p _ (two (past_binder y c _ (node_in (below at) q s _ k)))))))))
node_in at (t.decrypt u m w a n p) s r i =
    at_first i (λ j. in_later (past_msg 1 m _ (two (three (in_later (past_ty 1 a _ (in_later (past_msg 1 n _ (in_later (node_in (below at) p s _ j))))))))))
node_in at (t.check u m n p) s r i = at_first i (λ j. in_later (past_msg 1 m _ (in_later (past_msg 1 n _ (in_later (node_in (below at) p s _ j))))))
node_in at (t.begin u m p) s r i = at_first i (λ j. in_later (past_msg 1 m _ (in_later (node_in (below at) p s _ j))))
node_in at (t.end u m p) s r i = at_first i (λ j. in_later (past_msg 1 m _ (in_later (node_in (below at) p s _ j))))
node_in at (t.end_many u m p) s r i = at_first i (λ j. in_later (past_msg 1 m _ (in_later (node_in (below at) p s _ j))))
node_in at (t.cast u m w a p) s r i = at_first i (λ j. in_later (past_msg 1 m _ (in_later (past_binder w a _ (node_in (below at) p s _ j)))))
node_in at (t.new u w a p) s r i = at_first i (λ j. in_later (past_binder w a _ (node_in (below at) p s _ j)))
node_in at (t.stop u) s r i = at_first i none
node_in at (t.group u p q) s r i =
    at_first i (λ j. in_later (either (places p) (places q) j (λ k. node_in (below at) p s _ k) (λ k. past_proc (below at) p _ (in_later (node_in (beside_place at) q s _ k)))))

node_opens : (tree : t.File) (s : Span) → In s (places tree.process) → In (opens s.from) (file_pieces tree [])
node_opens tree s i = in_later (past_version _ _ _ _ _ (past_decls tree.decls _ (in_later (node_in (at_level 0) tree.process s _ i))))

-- each place that is asked for is in the bytes, where a piece opens at each of them
pub opened_within : (bytes : List ℕ) (tree : t.File) → IsTreeOf bytes tree → (spans : List Span) → ((s : Span) → In s spans → In (opens s.from) (file_pieces tree [])) → (i : ℕ) → (place_in spans i).from ≤ length bytes
opened_within bytes tree is spans all i = by (slice_get spans i) refl
  where
    by : (o : Option Span) → slice_get spans i ≡ o → (or_nowhere o).from ≤ length bytes
    by None h = omega arith
    by (Some s) h = opens_within (length bytes) 0 0 s.from (whole_file tree) is.tokens is.spelled (lexed bytes is.tokens is.lexed).1 (all s (get_in spans i s h))

pub place_within : (bytes : List ℕ) (tree : t.File) → IsTreeOf bytes tree → (i : ℕ) → (place_at tree i).from ≤ length bytes
place_within bytes tree is = opened_within bytes tree is (places tree.process) (node_opens tree)

-- each node of the opponent that is asked for
opponent_in : (o : Option t.Proc) (s : Span) (r : List Piece) → In s (opponent_places o) → In (opens s.from) (opponent_pieces o r)
opponent_in None s r i = elim i [ ]
opponent_in (Some p) s r i = in_later (node_in (at_level 0) p s r i)

opponent_opens : (tree : t.File) (s : Span) → In s (opponent_places tree.opponent) → In (opens s.from) (file_pieces tree [])
opponent_opens tree s i =
    in_later (past_version _ _ _ _ _ (past_decls tree.decls _ (in_later (past_proc (at_level 0) tree.process _ (opponent_in tree.opponent s _ i)))))

pub opponent_within : (bytes : List ℕ) (tree : t.File) → IsTreeOf bytes tree → (i : ℕ) → (opponent_at tree i).from ≤ length bytes
opponent_within bytes tree is = opened_within bytes tree is (opponent_places tree.opponent) (opponent_opens tree)

-- each step that is asked for
steps_in : (xs : List t.Step) (s : Span) (r : List Piece) → In s (map step_span xs) → In (opens s.from) (steps_pieces xs r)
steps_in [] s r i = elim i [ ]
steps_in (t.act u k ∷ xs) s r i = at_first i (λ j. in_later (three (steps_in xs s r j)))
steps_in (t.talk u k l ∷ xs) s r i = at_first i (λ j. two (three (steps_in xs s r j)))

schedule_in : (o : Option (List t.Step)) (s : Span) (r : List Piece) → In s (step_places o) → In (opens s.from) (schedule_pieces o r)
schedule_in None s r i = elim i [ ]
schedule_in (Some xs) s r i = in_later (steps_in xs s r i)

step_opens : (tree : t.File) (s : Span) → In s (step_places tree.schedule) → In (opens s.from) (file_pieces tree [])
step_opens tree s i =
    in_later (past_version _ _ _ _ _ (past_decls tree.decls _ (in_later (past_proc (at_level 0) tree.process _ (Past.past_opponent {P = λ r. In (opens s.from) r} (λ a r i. in_later i) tree.opponent _ (schedule_in tree.schedule s _ i))))))

pub step_within : (bytes : List ℕ) (tree : t.File) → IsTreeOf bytes tree → (i : ℕ) → (step_at tree i).from ≤ length bytes
step_within bytes tree is = opened_within bytes tree is (step_places tree.schedule) (step_opens tree)
