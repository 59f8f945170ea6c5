-- What a formed tree stands for, at whose points nothing is wrong, is of its version, and its messages and types are small.
use Rattle.std.proofs.Common.{ℕ, suc, ◌+◌, ◌-◌, Bool, true, false, List, [], ◌∷◌, ◌++◌, length, arith, Option, Some, None}
use Rattle.std.specs.Prelude.{⊤, nat_lt, if◌then◌else◌}
use Rattle.std.specs.Str.{bytes_eq}
use Rattle.spi_text.specs.declared.lines.Span.{Span}
use Rattle.spi_tree.specs.declared.tree.SWord.{SWord}
use Rattle.spi_tree.specs.Trees as t
use Rattle.spi_tree.specs.Pieces.{Place, in_seq, at_level, below, beside_place}
use Rattle.spi_tree.specs.Formed.{IsMsg, AreMsgs, IsAtom, AreAtoms, IsTy, AreFields, IsLast, IsProc, AreDeclared}
use Rattle.spi_term.specs.Term.{Message, bound, name, Ty}
use Rattle.spi_scope.specs.Scope.{Word, Names, number_of, Abbreviation, Abbreviations, type_of}
use Rattle.spi_scope.specs.Meaning.{name_meant, nested, message_in, messages_in, atom_in, effect_in, known, nested_types, behind, type_in, fields_in, last_in, process_in}
use Rattle.spi_scope.specs.Points.{message_points_whole, atom_points, atoms_points, type_points, fields_points, last_points, whole_type, part, message_head, messages_head, typed_head, new_head, tested_head, split_head, match_head, process_points, decls_points, with_free, all_types}
use Rattle.spi_scope.proofs.Counting.{PassesTests}
use Rattle.spi_scope.proofs.Sizes.{message_sized, type_sized}
use Rattle.spi_spell.proofs.Printable.{HasVersion, MessageFits, AtomFits, EffectFits, PartsFit, TyFits, ProcessFits}

-- the types that abbreviations stand for are of the version
abbrev pub TypesFit : Bool → Abbreviations → Type 0
TypesFit later [] = ⊤
TypesFit later (u ∷ ts) = PartsFit later u.stands_for × TypesFit later ts

known_fits : (later : Bool) (ts : Abbreviations) → TypesFit later ts → (w : Word) → PartsFit later (known (type_of ts w))
known_fits later [] h w = tt
known_fits later (u ∷ ts) h w = by (bytes_eq w u.word) (known_fits later ts h.1 w)
  where
    by : (b : Bool) → PartsFit later (known (type_of ts w)) → PartsFit later (known (if b then Some u.stands_for else type_of ts w))
    by true k = h.0
    by false k = k

types_push : (later : Bool) (ts : Abbreviations) (u : Abbreviation) → TypesFit later ts → PartsFit later u.stands_for → TypesFit later (ts ++ u ∷ [])
types_push later [] u h f = (f, tt)
types_push later (v ∷ ts) u h f = (h.0, types_push later ts u h.1 f)

name_version : (later : Bool) (k s : ℕ) (o : Option ℕ) → HasVersion later (name_meant k s o)
name_version later k s None = tt
name_version later k s (Some x) = by (nat_lt x k)
  where
    by : (b : Bool) → HasVersion later (if b then name x else bound (s - suc x))
    by true = tt
    by false = tt

module _ (later : Bool) (k : ℕ) where
  module _ (xs : Names) where
    mutual
      message_version : (m : t.Msg) → IsMsg later false m → HasVersion later (message_in k xs m)
      message_version (t.name s w) h = name_version later k (length xs) (number_of xs w.word)
      message_version (t.unit s) h = tt
      message_version (t.tuple s a b ms) h = (message_version a h.0, row_version (message_in k xs b) ms (message_version b h.1) h.2)
      message_version (t.inl s a) h = message_version a h
      message_version (t.inr s a) h = message_version a h
      message_version (t.enc s a b) h = (message_version a h.0, message_version b h.1)
      message_version (t.hash s a) h = (h.0, message_version a h.1)
      message_version (t.num s i) h = tt

      row_version : (first : Message) (ms : t.Msgs) → HasVersion later first → AreMsgs later false ms → HasVersion later (nested first (messages_in k xs ms))
      row_version first t.no_msgs f h = f
      row_version first (t.more_msgs m ms) f h = (f, row_version (message_in k xs m) ms (message_version m h.0) h.1)

    whole_fits : (m : t.Msg) → IsMsg later false m → PassesTests (message_points_whole xs m) → MessageFits later (message_in k xs m)
    whole_fits m h p = (omega (arith, p.1, message_sized k xs m), message_version m h)

    atom_fits : (e : t.Atom) → IsAtom later false e → PassesTests (atom_points xs e) → AtomFits later (atom_in k xs e)
    atom_fits (t.ends s m) h p = whole_fits m h p
    atom_fits (t.checks s m) h p = whole_fits m h p
    atom_fits (t.many s m) h p = (h.0, whole_fits m h.1 p)

    effect_fits : (es : List t.Atom) → AreAtoms later false es → PassesTests (atoms_points xs es) → EffectFits later (effect_in k xs es)
    effect_fits [] h p = tt
    effect_fits (e ∷ es) h p = (atom_fits e h.0 p.0, effect_fits es h.1 p.1)

  module _ (ts : Abbreviations) (fit : TypesFit later ts) where
    mutual
      parts_fit : (xs : Names) (a : t.Ty) → IsTy later a → PassesTests (type_points ts xs a) → PartsFit later (type_in k ts xs a)
      parts_fit xs (t.un s) h p = tt
      parts_fit xs (t.unit_ty s) h p = tt
      parts_fit xs (t.tuple_ty s w a fs l) h p =
          let z = last_in k ts (behind (w.word ∷ xs) fs) l in
          (parts_fit xs a h.0 p.0, fields_fit (w.word ∷ xs) fs z (last_fits (behind (w.word ∷ xs) fs) l h.2 p.1.1) h.1 p.1.0)
      parts_fit xs (t.sum s a b) h p = (parts_fit xs a h.0 p.0, parts_fit xs b h.1 p.1)
      parts_fit xs (t.key s a) h p = parts_fit xs a h p
      parts_fit xs (t.nonce s es) h p = effect_fits xs es h p
      parts_fit xs (t.abbr s w) h p = known_fits later ts fit w.word

      fields_fit : (xs : Names) (fs : t.Fields) (z : Ty) → PartsFit later z → AreFields later fs → PassesTests (fields_points ts xs fs) → PartsFit later (nested_types (fields_in k ts xs fs) z)
      fields_fit xs t.no_fields z g h p = g
      fields_fit xs (t.more_fields w a fs) z g h p = (parts_fit xs a h.0 p.0, fields_fit (w.word ∷ xs) fs z g h.1 p.1)

      last_fits : (xs : Names) (l : t.Last) → IsLast later l → PassesTests (last_points ts xs l) → PartsFit later (last_in k ts xs l)
      last_fits xs (t.bare a) h p = parts_fit xs a h p
      last_fits xs (t.named w a) h p = parts_fit xs a h p

    pub type_fits : (xs : Names) (a : t.Ty) → IsTy later a → PassesTests (whole_type ts xs a) → TyFits later (type_in k ts xs a)
    unfolding whole_type
    type_fits xs a h p = (omega (arith, p.0.1, type_sized k ts xs a), parts_fit xs a h p.0.0)

    part_fits : (xs : Names) (m : t.Msg) → IsMsg later false m → PassesTests (part xs m) → MessageFits later (message_in k xs m)
    unfolding part
    part_fits xs m h p = whole_fits xs m h p.0

-- the parts of a head
of_message : (xs : Names) (s : Span) (m : t.Msg) → PassesTests (message_head xs s m) → PassesTests (part xs m)
unfolding message_head
of_message xs s m h = h.1

of_messages : (xs : Names) (s : Span) (m n : t.Msg) → PassesTests (messages_head xs s m n) → PassesTests (part xs m) × PassesTests (part xs n)
unfolding messages_head
of_messages xs s m n h = h.1

of_typed : (ts : Abbreviations) (xs : Names) (s : Span) (m : t.Msg) (a : t.Ty) → PassesTests (typed_head ts xs s m a) → PassesTests (part xs m) × PassesTests (whole_type ts xs a)
unfolding typed_head
of_typed ts xs s m a h = h.1

of_new : (ts : Abbreviations) (xs : Names) (s : Span) (a : t.Ty) → PassesTests (new_head ts xs s a) → PassesTests (whole_type ts xs a)
unfolding new_head
of_new ts xs s a h = h.1

of_tested : (ts : Abbreviations) (xs : Names) (s : Span) (m : t.Msg) (a : t.Ty) (n : t.Msg) → PassesTests (tested_head ts xs s m a n) → PassesTests (part xs m) × PassesTests (whole_type ts xs a) × PassesTests (part xs n)
unfolding tested_head
of_tested ts xs s m a n h = (h.1.0, h.1.1.0, h.1.1.1)

of_split : (ts : Abbreviations) (xs : Names) (s : Span) (m : t.Msg) (x : SWord) (a c : t.Ty) → PassesTests (split_head ts xs s m x a c) → PassesTests (part xs m) × PassesTests (whole_type ts xs a) × PassesTests (whole_type ts (x.word ∷ xs) c)
unfolding split_head
of_split ts xs s m x a c h = (h.1.0, h.1.1.0, h.1.1.1)

of_match : (ts : Abbreviations) (xs : Names) (s : Span) (m : t.Msg) (x : SWord) (a : t.Ty) (n : t.Msg) (c : t.Ty) → PassesTests (match_head ts xs s m x a n c)
    → PassesTests (tested_head ts xs s m a n) × PassesTests (whole_type ts (x.word ∷ xs) c)
unfolding match_head
of_match ts xs s m x a n c h = h

module _ (later : Bool) (k : ℕ) (ts : Abbreviations) (fit : TypesFit later ts) where
  pub process_fits : (xs : Names) (p : t.Proc) (a : Place) → IsProc later a p → PassesTests (process_points ts xs p) → ProcessFits later (process_in (λ s. k) ts xs p)
  process_fits xs (t.par s p q) (in_seq l) f h = absurd f
  process_fits xs (t.par s p q) (at_level l) f h = (tt, process_fits xs p (in_seq (l + 1)) f.0 h.0, process_fits xs q (at_level (l + 1)) f.1 h.1.1)
  process_fits xs (t.group s p q) a f h = (tt, process_fits xs p (below a) f.0 h.0, process_fits xs q (beside_place a) f.1 h.1.1)
  process_fits xs (t.out s m n) a f h =
      let g = of_messages xs s m n h in
      (part_fits later k ts fit xs m f.0 g.0, part_fits later k ts fit xs n f.1 g.1)
  process_fits xs (t.out_then s m n p) a f h =
      let g = of_messages xs s m n h.0 in
      (tt, (part_fits later k ts fit xs m f.0 g.0, part_fits later k ts fit xs n f.1 g.1), process_fits xs p (below a) f.2 h.1.1)
  process_fits xs (t.inp s m x c p) a f h =
      let g = of_typed ts xs s m c h.0 in
      ((part_fits later k ts fit xs m f.0 g.0, type_fits later k ts fit xs c f.1 g.1), process_fits (x.word ∷ xs) p (below a) f.2 h.1)
  process_fits xs (t.repeat s m x c p) a f h =
      let g = of_typed ts xs s m c h.0 in
      ((part_fits later k ts fit xs m f.0 g.0, type_fits later k ts fit xs c f.1 g.1), process_fits (x.word ∷ xs) p (below a) f.2 h.1)
  process_fits xs (t.split s m x c y d p) a f h =
      let g = of_split ts xs s m x c d h.0 in
      ((part_fits later k ts fit xs m f.0 g.0, type_fits later k ts fit xs c f.1 g.1, type_fits later k ts fit (x.word ∷ xs) d f.2 g.2), process_fits (y.word ∷ x.word ∷ xs) p (below a) f.3 h.1)
  process_fits xs (t.match s m x c n y d p) a f h =
      let o = of_match ts xs s m x c n d h.0 in
      let g = of_tested ts xs s m c n o.0 in
      ((part_fits later k ts fit xs m f.0 g.0, type_fits later k ts fit xs c f.1 g.1, part_fits later k ts fit xs n f.2 g.2, type_fits later k ts fit (x.word ∷ xs) d f.3 o.1), process_fits (y.word ∷ xs) p (below a) f.4 h.1)
  process_fits xs (t.case s m x c p y d q) a f h =
      let g = of_typed ts xs s m c h.0 in
      ((part_fits later k ts fit xs m f.0 g.0, type_fits later k ts fit xs c f.1 g.1, type_fits later k ts fit xs d f.3 h.1.1.0), process_fits (x.word ∷ xs) p (below a) f.2 h.1.0, process_fits (y.word ∷ xs) q (below a) f.4 h.1.1.1)
  process_fits xs (t.decrypt s m x c n p) a f h =
      let g = of_tested ts xs s m c n h.0 in
      ((part_fits later k ts fit xs m f.0 g.0, type_fits later k ts fit xs c f.1 g.1, part_fits later k ts fit xs n f.2 g.2), process_fits (x.word ∷ xs) p (below a) f.3 h.1)
  process_fits xs (t.check s m n p) a f h =
      let g = of_messages xs s m n h.0 in
      ((part_fits later k ts fit xs m f.0 g.0, part_fits later k ts fit xs n f.1 g.1), process_fits xs p (below a) f.2 h.1)
  process_fits xs (t.begin s m p) a f h = (part_fits later k ts fit xs m f.0 (of_message xs s m h.0), process_fits xs p (below a) f.1 h.1)
  process_fits xs (t.end s m p) a f h = (part_fits later k ts fit xs m f.0 (of_message xs s m h.0), process_fits xs p (below a) f.1 h.1)
  process_fits xs (t.end_many s m p) a f h = ((f.0, part_fits later k ts fit xs m f.1 (of_message xs s m h.0)), process_fits xs p (below a) f.2 h.1)
  process_fits xs (t.cast s m x c p) a f h =
      let g = of_typed ts xs s m c h.0 in
      ((part_fits later k ts fit xs m f.0 g.0, type_fits later k ts fit xs c f.1 g.1), process_fits (x.word ∷ xs) p (below a) f.2 h.1)
  process_fits xs (t.new s x c p) a f h = (type_fits later k ts fit xs c f.0 (of_new ts xs s c h.0), process_fits (x.word ∷ xs) p (below a) f.1 h.1)
  process_fits xs (t.stop s) a f h = tt

-- the abbreviations that declarations bring into scope
pub types_fit : (later : Bool) (ts : Abbreviations) (xs : Names) (ds : List t.Declared) → TypesFit later ts → AreDeclared later ds → PassesTests (decls_points ts xs ds) → TypesFit later (all_types ts xs ds)
types_fit later ts xs [] fit h p = fit
types_fit later ts xs (t.free s w ws ∷ ds) fit h p = types_fit later ts (with_free xs (w ∷ ws)) ds fit h.1 p.1
types_fit later ts xs (t.abbreviated s w a ∷ ds) fit h p =
    let u : Abbreviation = record { word = w.word; stands_for = type_in (length xs) ts xs a } in
    types_fit later (ts ++ u ∷ []) xs ds (types_push later ts u fit (type_fits later (length xs) ts fit xs a h.0 p.0.1).1) h.1 p.1
