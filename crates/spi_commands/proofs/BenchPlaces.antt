-- What a bench is refused for stands in the bytes that spell it, and its number has a name.
use Rattle.std.proofs.Common.{◌≡◌, inl, inr, ⊎_elim, ℕ, ◌==◌, ◌≤◌, Bool, true, false, List, [], ◌∷◌, ◌++◌, length, Option, IfSome, IsSome, refl, sym, ap, ◌∙◌, subst, arith, if◌then◌else◌}
use Rattle.std.specs.Prelude.{codes}
use Rattle.spi_lex.specs.declared.token.Kind.TheVariants as kinds
use Rattle.spi_lex.specs.declared.token.Mark.TheVariants as mark
use Rattle.spi_text.specs.declared.lines.Span.{Span}
use Rattle.spi_lex.proofs.Lexed.{lexed}
use Rattle.spi_tree.specs.declared.tree.SWord.{SWord}
use Rattle.spi_tree.specs.Trees as t
use Rattle.spi_tree.specs.Pieces.{Piece, opens, cell, closes, a_token, a_number, a_mark, a_reserved, msg_pieces, ty_pieces, Place, at_level, below, proc_pieces, decl_pieces, decls_pieces, version_pieces, file_pieces}
use Rattle.spi_parse.specs.Formed.{whole_process}
use Rattle.spi_parts.proofs.Behind.{msg_behind, ty_behind, decl_behind}
use Rattle.spi_term.specs.Lists.{In, in_first, in_later}
use Rattle.spi_term.proofs.Lists.{in_cases, in_append, get_in, in_left, in_right}
use Rattle.spi_scope.specs.declared.fault.ScopeFault.{ScopeFault}
use Rattle.spi_scope.specs.declared.fault.ScopeFault.TheVariants as scope
use Rattle.spi_scope.specs.First.{HasFirst}
use Rattle.spi_scope.specs.FaultPlaces.{span_from, StartsAt}
use Rattle.spi_heading.specs.Headings as h
use Rattle.spi_heading.specs.Each.{each_pieces}
use Rattle.spi_heading.specs.Grammar.{shared_pieces}
use Rattle.spi_heading.proofs.Names.{shared_behind}
use Rattle.spi_edits.specs.Edits.{Edit, puts, drops, Bench}
use Rattle.spi_edits.specs.Grammar.{edit_pieces, bench_pieces, placed, whole_bench}
use Rattle.spi_edits.proofs.EditRows.{edit_behind}
use Rattle.spi_heading.proofs.Each.{each_behind}
use Rattle.spi_workbench.specs.Reading.{behind_shared, file_with, heading_file}
use Rattle.spi_workbench.specs.Answers.{edit_span, IsEditRefused, wrong_part, too_large, unknown, RefusesEdits, too_many_shared, wrong_heading, too_many_edits, wrong_edit}
use Rattle.spi_workbench.specs.declared.answer.Refusal.{Refusal}
use Rattle.spi_report.specs.Names.{name_of}
use Rattle.spi_commands.specs.Benching.{IsBenchOf, bench_number, bench_place, IsUnjudged, unjudged, RefusesBench}
use Rattle.spi_commands.proofs.FileRefusals.{opens_within, unlexed_within, unparsed_within, unlexed_named, unparsed_named, scope_named}

-- where nodes and words begin among these pieces
abbrev piece_starts : List Piece → List ℕ
piece_starts [] = []
piece_starts (opens from ∷ ps) = from ∷ piece_starts ps
piece_starts (cell k deep ∷ ps) = piece_starts ps
piece_starts (closes to ∷ ps) = piece_starts ps

starts_append : (ps qs : List Piece) → piece_starts (ps ++ qs) ≡ piece_starts ps ++ piece_starts qs
starts_append [] qs = refl
starts_append (opens from ∷ ps) qs = ap (λ (l : List ℕ). from ∷ l) (starts_append ps qs)
starts_append (cell k deep ∷ ps) qs = starts_append ps qs
starts_append (closes to ∷ ps) qs = starts_append ps qs

starts_in : (m : ℕ) (ps : List Piece) → In (opens m) ps → In m (piece_starts ps)
starts_in m [] i = elim i [ ]
starts_in m (opens from ∷ ps) in_first = in_first
starts_in m (opens from ∷ ps) (in_later i) = in_later (starts_in m ps i)
starts_in m (cell k deep ∷ ps) (in_later i) = starts_in m ps i
starts_in m (closes to ∷ ps) (in_later i) = starts_in m ps i

in_starts : (m : ℕ) (ps : List Piece) → In m (piece_starts ps) → In (opens m) ps
in_starts m [] i = elim i [ ]
in_starts m (opens from ∷ ps) i =
    ⊎_elim (λ (e : m ≡ from). subst (λ (n : ℕ). In (opens n) (opens from ∷ ps)) (sym e) in_first) (λ (j : In m (piece_starts ps)). in_later (in_starts m ps j)) (in_cases i)
in_starts m (cell k deep ∷ ps) i = in_later (in_starts m ps i)
in_starts m (closes to ∷ ps) i = in_later (in_starts m ps i)

-- ---- a process begins its nodes and words at the same places, whatever its level

abbrev SameStarts : List Piece → List Piece → Type 0
SameStarts ps qs = piece_starts ps ≡ piece_starts qs

behind_same : (front : List Piece) (whole : List Piece → List Piece) → ((r : List Piece) → whole r ≡ front ++ r) → (r s : List Piece) → SameStarts r s → SameStarts (whole r) (whole s)
behind_same front whole is r s e =
    ap piece_starts (is r) ∙ starts_append front r ∙ ap (λ (l : List ℕ). piece_starts front ++ l) e ∙ sym (starts_append front s) ∙ sym (ap piece_starts (is s))

msg : (m : t.Msg) (r s : List Piece) → SameStarts r s → SameStarts (msg_pieces 1 m r) (msg_pieces 1 m s)
msg m = behind_same (msg_pieces 1 m []) (msg_pieces 1 m) (msg_behind 1 m)

ty : (a : t.Ty) (r s : List Piece) → SameStarts r s → SameStarts (ty_pieces 1 a r) (ty_pieces 1 a s)
ty a = behind_same (ty_pieces 1 a []) (ty_pieces 1 a) (ty_behind 1 a)

-- one more begins before them
on : (m : ℕ) {xs ys : List ℕ} → xs ≡ ys → m ∷ xs ≡ m ∷ ys
on m e = ap (λ (l : List ℕ). m ∷ l) e

-- a word with its type
word : (w : SWord) (a : t.Ty) (r s : List Piece) → SameStarts r s → w.span.from ∷ piece_starts (ty_pieces 1 a r) ≡ w.span.from ∷ piece_starts (ty_pieces 1 a s)
word w a r s e = on w.span.from (ty a r s e)

levels : (p : t.Proc) (k j : Place) (r s : List Piece) → SameStarts r s → SameStarts (proc_pieces k p r) (proc_pieces j p s)
levels (t.par u p q) k j r s e = on u.from (levels p _ _ _ _ (levels q _ _ _ _ e))
levels (t.out u m n) k j r s e = on u.from (msg m _ _ (msg n _ _ e))
levels (t.out_then u m n p) k j r s e = on u.from (msg m _ _ (msg n _ _ (levels p _ _ _ _ e)))
levels (t.inp u m w a p) k j r s e = on u.from (msg m _ _ (word w a _ _ (levels p _ _ _ _ e)))
levels (t.repeat u m w a p) k j r s e = on u.from (msg m _ _ (word w a _ _ (levels p _ _ _ _ e)))
levels (t.split u m w a y c p) k j r s e = on u.from (msg m _ _ (word w a _ _ (word y c _ _ (levels p _ _ _ _ e))))
levels (t.match u m w a n y c p) k j r s e = on u.from (msg m _ _ (word w a _ _ (msg n _ _ (word y c _ _ (levels p _ _ _ _ e)))))
levels (t.case u m w a p y c q) k j r s e = on u.from (msg m _ _ (word w a _ _ (levels p _ _ _ _ (word y c _ _ (levels q _ _ _ _ e)))))
levels (t.decrypt u m w a n p) k j r s e = on u.from (msg m _ _ (word w a _ _ (msg n _ _ (levels p _ _ _ _ e))))
levels (t.check u m n p) k j r s e = on u.from (msg m _ _ (msg n _ _ (levels p _ _ _ _ e)))
levels (t.begin u m p) k j r s e = on u.from (msg m _ _ (levels p _ _ _ _ e))
levels (t.end u m p) k j r s e = on u.from (msg m _ _ (levels p _ _ _ _ e))
levels (t.end_many u m p) k j r s e = on u.from (msg m _ _ (levels p _ _ _ _ e))
levels (t.cast u m w a p) k j r s e = on u.from (msg m _ _ (word w a _ _ (levels p _ _ _ _ e)))
levels (t.new u w a p) k j r s e = on u.from (word w a _ _ (levels p _ _ _ _ e))
levels (t.stop u) k j r s e = on u.from e
levels (t.group u p q) k j r s e = on u.from (levels p _ _ _ _ (levels q _ _ _ _ e))

-- the `new`s of shared names begin where these do
shared_levels : (ss : List h.Shared) (k : Place) (p : t.Proc) (r s : List Piece) → SameStarts r s → SameStarts (proc_pieces k (behind_shared ss p) r) (each_pieces shared_pieces ss (proc_pieces (at_level 0) p s))
shared_levels [] k p r s e = levels p k (at_level 0) r s e
shared_levels (x ∷ ss) k p r s e = on x.span.from (word x.name x.ty _ _ (shared_levels ss (below k) p _ s e))

decls_are : (ds : List t.Declared) (r : List Piece) → decls_pieces ds r ≡ each_pieces decl_pieces ds r
decls_are [] r = refl
decls_are (d ∷ ds) r = ap (decl_pieces d) (decls_are ds r)

version_starts : (v : ℕ) (r : List Piece) → SameStarts (version_pieces v r) r
version_starts v r = go (v == 2)
  where
    go : (b : Bool) → piece_starts (if b then a_token (kinds.Word (codes "version")) (a_number 2 (a_mark mark.Semicolon r)) else r) ≡ piece_starts r
    go true = refl
    go false = refl

-- ---- what begins in a bench

-- the declarations, the shared names and the edits
module _ (b : Bench) where
  abbrev decl_starts : List ℕ
  decl_starts = piece_starts (each_pieces decl_pieces b.decls [])

  abbrev shared_starts : List ℕ
  shared_starts = piece_starts (each_pieces shared_pieces b.shared [])

  abbrev edit_starts : List ℕ
  edit_starts = piece_starts (each_pieces edit_pieces b.edits [])

  heading_starts : (r : List Piece) → piece_starts (each_pieces decl_pieces b.decls (each_pieces shared_pieces b.shared r)) ≡ decl_starts ++ (shared_starts ++ piece_starts r)
  heading_starts r =
      ap piece_starts (each_behind decl_pieces decl_behind b.decls (each_pieces shared_pieces b.shared r)) ∙ starts_append (each_pieces decl_pieces b.decls []) (each_pieces shared_pieces b.shared r)
      ∙ ap (λ (l : List ℕ). decl_starts ++ l) (ap piece_starts (each_behind shared_pieces shared_behind b.shared r) ∙ starts_append (each_pieces shared_pieces b.shared []) r)

  bench_starts : piece_starts (bench_pieces b) ≡ decl_starts ++ (shared_starts ++ edit_starts)
  bench_starts = version_starts b.version _ ∙ heading_starts (each_pieces edit_pieces b.edits [])

  file_starts : (p : t.Proc) → piece_starts (file_pieces (file_with b p) []) ≡ b.span.from ∷ (decl_starts ++ (shared_starts ++ piece_starts (whole_process p)))
  file_starts p =
      let tail : List Piece = closes b.span.to ∷ [] in
      let process : List Piece = a_reserved Rattle.spi_lex.specs.declared.token.Reserved.TheVariants.Process (proc_pieces (at_level 0) (behind_shared b.shared p) tail) in
      on b.span.from
      (version_starts b.version _ ∙ ap piece_starts (decls_are b.decls process) ∙ ap piece_starts (each_behind decl_pieces decl_behind b.decls process) ∙ starts_append (each_pieces decl_pieces b.decls []) process
      ∙ ap (λ (l : List ℕ). decl_starts ++ l) (shared_levels b.shared (at_level 0) p tail [] refl ∙ ap piece_starts (each_behind shared_pieces shared_behind b.shared (whole_process p)) ∙ starts_append (each_pieces shared_pieces b.shared []) (whole_process p)))

-- a part's own, where it is one of many
module _ {X : Type 0} (piece : X → List Piece → List Piece) (behind : (x : X) (r : List Piece) → piece x r ≡ piece x [] ++ r) where
  in_each : (xs : List X) (x : X) (m : ℕ) → In x xs → In m (piece_starts (piece x [])) → In m (piece_starts (each_pieces piece xs []))
  in_each (y ∷ xs) x m i j =
      subst (λ (l : List ℕ). In m l) (sym (ap piece_starts (behind y (each_pieces piece xs [])) ∙ starts_append (piece y []) (each_pieces piece xs [])))
      (⊎_elim (λ (e : x ≡ y). in_left (piece_starts (each_pieces piece xs [])) (subst (λ (z : X). In m (piece_starts (piece z []))) e j)) (λ (k : In x xs). in_right (piece_starts (piece y [])) (in_each xs x m k j)) (in_cases i))
  in_each [] x m i j = elim i [ ]

-- ---- the places are in the bytes

module _ (bytes : List ℕ) (b : Bench) (is : IsBenchOf bytes b) where
  opens_in : (m : ℕ) → In (opens m) (whole_bench b) → m ≤ length bytes
  opens_in m i = opens_within (length bytes) 0 0 m (whole_bench b) is.tokens is.spelled.1 (lexed bytes is.tokens is.lexed).1 i

  placed_in : (m : ℕ) (ps : List Piece) → In (opens m) ps → In (opens m) (placed b.span ps)
  placed_in m [] i = elim i [ ]
  placed_in m (p ∷ ps) i = in_later (in_left (closes b.span.to ∷ []) i)

  starts_here : (m : ℕ) → In m (decl_starts b ++ (shared_starts b ++ edit_starts b)) → m ≤ length bytes
  starts_here m i = opens_in m (placed_in m (bench_pieces b) (in_starts m (bench_pieces b) (subst (λ (l : List ℕ). In m l) (sym (bench_starts b)) i)))

  in_shared : (m : ℕ) → In m (shared_starts b) → m ≤ length bytes
  in_shared m i = starts_here m (in_right (decl_starts b) (in_left (edit_starts b) i))

  in_edits : (m : ℕ) → In m (edit_starts b) → m ≤ length bytes
  in_edits m i = starts_here m (in_right (decl_starts b) (in_right (shared_starts b) i))

  span_here : b.span.from ≤ length bytes
  span_here = go (bench_pieces b) refl
    where
      go : (ps : List Piece) → bench_pieces b ≡ ps → b.span.from ≤ length bytes
      go [] e = let z : b.span.from ≡ 0 = ap (λ (s : Span). s.from) (is.spelled.0.place e) in omega (arith, z)
      go (p ∷ ps) e = opens_in b.span.from (subst (λ (l : List Piece). In (opens b.span.from) (placed b.span l)) (sym e) in_first)

  edit_here : (e : Edit) (m : ℕ) → In e b.edits → In m (piece_starts (edit_pieces e [])) → m ≤ length bytes
  edit_here e m i j = in_edits m (in_each edit_pieces edit_behind b.edits e m i j)

  -- a fault of the heading and a part stands at the heading or in the part
  fault_here : ((tree : t.File) (fault : ScopeFault) → HasFirst tree fault → StartsAt tree (span_from fault)) → (p : t.Proc) → ((m : ℕ) → In m (piece_starts (whole_process p)) → m ≤ length bytes)
      → (f : ScopeFault) → HasFirst (file_with b p) f → span_from f ≤ length bytes
  fault_here law p part f first = all (span_from f) (subst (λ (l : List ℕ). In (span_from f) l) (file_starts b p) (starts_in (span_from f) (file_pieces (file_with b p) []) (law (file_with b p) f first)))
    where
      names : (m : ℕ) → In m (shared_starts b ++ piece_starts (whole_process p)) → m ≤ length bytes
      names m i = ⊎_elim (λ (j : In m (shared_starts b)). in_shared m j) (λ (j : In m (piece_starts (whole_process p))). part m j) (in_append (shared_starts b) i)

      body : (m : ℕ) → In m (decl_starts b ++ (shared_starts b ++ piece_starts (whole_process p))) → m ≤ length bytes
      body m i = ⊎_elim (λ (j : In m (decl_starts b)). starts_here m (in_left (shared_starts b ++ edit_starts b) j)) (λ (j : In m (shared_starts b ++ piece_starts (whole_process p))). names m j) (in_append (decl_starts b) i)

      all : (m : ℕ) → In m (b.span.from ∷ (decl_starts b ++ (shared_starts b ++ piece_starts (whole_process p)))) → m ≤ length bytes
      all m i = ⊎_elim (λ (e : m ≡ b.span.from). let s = span_here in omega (arith, e, s)) (λ (j : In m (decl_starts b ++ (shared_starts b ++ piece_starts (whole_process p)))). body m j) (in_cases i)

  edit_in : (e : Edit) → In (edit_span e).from (piece_starts (edit_pieces e []))
  edit_in (puts s w p) = in_first
  edit_in (drops s w) = in_first

  part_in : (s : Span) (w : SWord) (p : t.Proc) (m : ℕ) → In m (piece_starts (whole_process p)) → In m (piece_starts (edit_pieces (puts s w p) []))
  part_in s w p m i =
      let r : List Piece = a_mark Rattle.spi_lex.specs.declared.token.Mark.TheVariants.BraceClose (closes s.to ∷ []) in
      in_later (in_later (subst (λ (l : List ℕ). In m l) (sym (ap piece_starts (Rattle.spi_parts.proofs.Behind.proc_behind (at_level 0) p r) ∙ starts_append (whole_process p) r)) (in_left (piece_starts r) i)))

  among : (before after : List Edit) (e : Edit) → b.edits ≡ before ++ e ∷ after → In e b.edits
  among before after e cut = subst (λ (l : List Edit). In e l) (sym cut) (in_right before in_first)

  -- a fault of a bench stands in its bytes
  module _ (law : (tree : t.File) (fault : ScopeFault) → HasFirst tree fault → StartsAt tree (span_from fault)) where
    edit_within : (before : List Edit) (e : Edit) (r : Refusal) → In e b.edits → IsEditRefused b before e r → bench_place r ≤ length bytes
    edit_within before e r i (wrong_part {s = s} {w = w} {p = p} {f = f} first) = fault_here law p (λ m j. edit_here (puts s w p) m i (part_in s w p m j)) f first
    edit_within before e r i (too_large {s = s} {w = w} {p = p} clean more) = edit_here (puts s w p) w.span.from i (in_later in_first)
    edit_within before e r i (unknown {s = s} {w = w} none) = edit_here (drops s w) w.span.from i (in_later in_first)

    pub place_within : (r : Refusal) → RefusesEdits b (length bytes) r → bench_place r ≤ length bytes
    place_within r (too_many_shared {s = s} g) = in_shared s.name.span.from (in_each shared_pieces shared_behind b.shared s s.name.span.from (get_in b.shared 16 s g) (in_later in_first))
    place_within r (wrong_heading {f = f} few first) = fault_here law (t.stop (record { from = length bytes; to = length bytes })) at_end f first
      where
        at_end : (m : ℕ) → In m (length bytes ∷ []) → m ≤ length bytes
        at_end m i = ⊎_elim (λ (e : m ≡ length bytes). omega (arith, e)) (λ (j : In m []). elim j [ ]) (in_cases i)
    place_within r (too_many_edits {e = e} stands g) = edit_here e (edit_span e).from (get_in b.edits 1000 e g) (edit_in e)
    place_within r (wrong_edit before after {e = e} {r = f} stands few cut ahead refused) = edit_within before e f (among before after e cut) refused

-- the place and the number of what bytes are refused for
unjudged_within : {bytes : List ℕ} {number : ℕ} {offset : Option ℕ} {shown : List ℕ} → ((tree : t.File) (fault : ScopeFault) → HasFirst tree fault → StartsAt tree (span_from fault)) → (b : Bench) → IsBenchOf bytes b → IsUnjudged b (length bytes) number offset shown
    → IfSome offset (λ at. at ≤ length bytes)
unjudged_within {bytes} law b is (unjudged {r = r} h) = place_within bytes b is law r h

pub bench_within : {bytes : List ℕ} {number : ℕ} {offset : Option ℕ} {shown : List ℕ} → ((tree : t.File) (fault : ScopeFault) → HasFirst tree fault → StartsAt tree (span_from fault)) → RefusesBench bytes number offset shown → IfSome offset (λ at. at ≤ length bytes)
bench_within law (inl h) = unlexed_within h
bench_within law (inr (inl h)) = unparsed_within h
bench_within law (inr (inr (b, is, h))) = unjudged_within law b is h

refused_named : (never : (tree : t.File) (fault : ScopeFault) → HasFirst tree fault → ¬ (fault ≡ scope.NoMemory)) → (b : Bench) (before : List Edit) (e : Edit) (r : Refusal) → IsEditRefused b before e r → IsSome (name_of (bench_number r))
refused_named never b before e r (wrong_part {p = p} {f = f} first) = scope_named f (never (file_with b p) f first)
refused_named never b before e r (too_large clean more) = refl
refused_named never b before e r (unknown none) = refl

unjudged_named : {b : Bench} {end number : ℕ} {offset : Option ℕ} {shown : List ℕ} → ((tree : t.File) (fault : ScopeFault) → HasFirst tree fault → ¬ (fault ≡ scope.NoMemory)) → IsUnjudged b end number offset shown → IsSome (name_of number)
unjudged_named {b} {end} never (unjudged {r = r} h) = go r h
  where
    go : (r : Refusal) → RefusesEdits b end r → IsSome (name_of (bench_number r))
    go r (too_many_shared g) = refl
    go r (wrong_heading {f = f} few first) = scope_named f (never (heading_file b end) f first)
    go r (too_many_edits stands g) = refl
    go r (wrong_edit before after {e = e} {r = f} stands few cut ahead refused) = refused_named never b before e f refused

pub bench_named : {bytes : List ℕ} {number : ℕ} {offset : Option ℕ} {shown : List ℕ} → ((tree : t.File) (fault : ScopeFault) → HasFirst tree fault → ¬ (fault ≡ scope.NoMemory)) → RefusesBench bytes number offset shown → IsSome (name_of number)
bench_named never (inl h) = unlexed_named h
bench_named never (inr (inl h)) = unparsed_named h
bench_named never (inr (inr (b, is, h))) = unjudged_named never h
