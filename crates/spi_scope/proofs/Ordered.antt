-- The points of a scan are those of the tree in their order.
use Rattle.std.proofs.Common.{◌≡◌, ℕ, ◌+◌, List, [], ◌∷◌, ◌++◌, length, refl, sym, ap, ◌∙◌, append_assoc, append-nil, Bool, true, false}
use Rattle.std.specs.Prelude.{◌==◌, map, Option, Some, None, if◌then◌else◌}
use Rattle.spi_text.specs.declared.lines.Span.{Span}
use Rattle.spi_lex.specs.declared.token.Kind.{Kind}
use Rattle.spi_tree.specs.declared.tree.SWord.{SWord}
use Rattle.spi_tree.specs.Trees as t
use Rattle.spi_scope.specs.Scope.{Names, Abbreviations}
use Rattle.spi_scope.specs.Meaning.{behind}
use Rattle.spi_scope.specs.Points.{Point, adds, in_order, file_points, message_points, messages_points, message_points_whole, part, atom_points, atoms_points, type_points, fields_points, last_points, bounded_type, whole_type, message_head, messages_head, typed_head, new_head, tested_head, split_head, match_head, process_points, free_points, decl_points, decls_points, names_behind, types_behind, all_names, all_types, opponent_points, steps_points, schedule_points, numbered_points, numbered_atom_points, numbered_atoms_points, written_points, deriv_points, derivs_points, derivation_points}
use Rattle.spi_scope.specs.Scan.{token, point, Scan, ◌▸◌, points_in_scan, message_scan, messages_scan, whole_scan, part_scan, atom_scan, atoms_scan, effect_scan, type_scan, fields_scan, last_scan, bounded_scan, whole_type_scan, named_scan, binder_scan, process_scan, frees_scan, decl_scan, decls_scan, steps_scan, numbered_scan, numbered_atom_scan, numbered_atoms_scan, written_scan, deriv_scan, derivs_scan, version_scan, opponent_scan, schedule_scan, derivation_scan, file_scan}

points_append : (a b : Scan) → points_in_scan (a ++ b) ≡ points_in_scan a ++ points_in_scan b
points_append [] b = refl
points_append (token k ∷ a) b = points_append a b
points_append (point p ∷ a) b = ap (λ l. p ∷ l) (points_append a b)

-- the points of a scan are these
pub record HasPoints (s : Scan) (l : List Point) : Type 0 where
  pub are : points_in_scan s ≡ l

nil : HasPoints [] []
nil = record { are = refl }

tok : {k : Kind} {s : Scan} {l : List Point} → HasPoints s l → HasPoints (token k ∷ s) l
tok h = record { are = h.are }

pt : {p : Point} {s : Scan} {l : List Point} → HasPoints s l → HasPoints (point p ∷ s) (p ∷ l)
pt {p} h = record { are = ap (λ l. p ∷ l) h.are }

infixr 5 ◌▹◌
◌▹◌ : {s t : Scan} {l m : List Point} → HasPoints s l → HasPoints t m → HasPoints (s ▸ t) (l ++ m)
◌▹◌ {s} {t} {l} g h = record { are = points_append s t ∙ ap (λ x. x ++ points_in_scan t) g.are ∙ ap (λ x. l ++ x) h.are }

-- where no point follows
ending : {s t : Scan} {l : List Point} → HasPoints s l → HasPoints t [] → HasPoints (s ▸ t) l
ending {s} {t} {l} g h = record { are = points_append s t ∙ ap (λ x. x ++ points_in_scan t) g.are ∙ ap (λ x. l ++ x) h.are ∙ append-nil l }

cast : {s : Scan} {l m : List Point} → m ≡ l → HasPoints s l → HasPoints s m
cast e h = record { are = h.are ∙ sym e }

mutual
  msg_holds : (xs : Names) (m : t.Msg) → HasPoints (message_scan xs m) (in_order (message_points xs m))
  msg_holds xs (t.name s w) = record { are = refl }
  msg_holds xs (t.unit s) = record { are = refl }
  msg_holds xs (t.tuple s a b ms) = tok (msg_holds xs a ▹ tok (msg_holds xs b ▹ ending (msgs_hold xs ms) (tok nil)))
  msg_holds xs (t.inl s a) = tok (msg_holds xs a)
  msg_holds xs (t.inr s a) = tok (msg_holds xs a)
  msg_holds xs (t.enc s a b) = tok (msg_holds xs a ▹ tok (msg_holds xs b))
  msg_holds xs (t.hash s a) = tok (tok (ending (msg_holds xs a) (tok nil)))
  msg_holds xs (t.num s i) = record { are = refl }

  msgs_hold : (xs : Names) (ms : t.Msgs) → HasPoints (messages_scan xs ms) (in_order (messages_points xs ms))
  msgs_hold xs t.no_msgs = nil
  msgs_hold xs (t.more_msgs m ms) = tok (msg_holds xs m ▹ msgs_hold xs ms)

whole_holds : (xs : Names) (m : t.Msg) → HasPoints (whole_scan xs m) (in_order (message_points_whole xs m))
whole_holds xs m = msg_holds xs m ▹ pt nil

part_holds : (xs : Names) (m : t.Msg) → HasPoints (part_scan xs m) (in_order (part xs m))
unfolding part
part_holds xs m = whole_holds xs m ▹ pt nil

atom_holds : (xs : Names) (e : t.Atom) → HasPoints (atom_scan xs e) (in_order (atom_points xs e))
atom_holds xs (t.ends s m) = tok (whole_holds xs m)
atom_holds xs (t.checks s m) = tok (whole_holds xs m)
atom_holds xs (t.many s m) = tok (whole_holds xs m)

atoms_hold : (xs : Names) (es : List t.Atom) → HasPoints (atoms_scan xs es) (in_order (atoms_points xs es))
atoms_hold xs [] = nil
atoms_hold xs (e ∷ es) = tok (atom_holds xs e ▹ atoms_hold xs es)

effect_holds : (xs : Names) (es : List t.Atom) → HasPoints (effect_scan xs es) (in_order (atoms_points xs es))
effect_holds xs [] = record { are = refl }
effect_holds xs (e ∷ es) = tok (atom_holds xs e ▹ ending (atoms_hold xs es) (tok nil))

mutual
  ty_holds : (ts : Abbreviations) (xs : Names) (a : t.Ty) → HasPoints (type_scan ts xs a) (in_order (type_points ts xs a))
  ty_holds ts xs (t.un s) = record { are = refl }
  ty_holds ts xs (t.unit_ty s) = record { are = refl }
  ty_holds ts xs (t.tuple_ty s w a fs l) =
      tok (tok (tok (ty_holds ts xs a ▹ tok (fields_hold ts (w.word ∷ xs) fs ▹ ending (last_holds ts (behind (w.word ∷ xs) fs) l) (tok nil)))))
  ty_holds ts xs (t.sum s a b) = tok (ty_holds ts xs a ▹ tok (ending (ty_holds ts xs b) (tok nil)))
  ty_holds ts xs (t.key s a) = tok (tok (ending (ty_holds ts xs a) (tok nil)))
  ty_holds ts xs (t.nonce s es) = tok (effect_holds xs es)
  ty_holds ts xs (t.abbr s w) = record { are = refl }

  fields_hold : (ts : Abbreviations) (xs : Names) (fs : t.Fields) → HasPoints (fields_scan ts xs fs) (in_order (fields_points ts xs fs))
  fields_hold ts xs t.no_fields = nil
  fields_hold ts xs (t.more_fields w a fs) = tok (tok (ty_holds ts xs a ▹ tok (fields_hold ts (w.word ∷ xs) fs)))

  last_holds : (ts : Abbreviations) (xs : Names) (l : t.Last) → HasPoints (last_scan ts xs l) (in_order (last_points ts xs l))
  last_holds ts xs (t.bare a) = ty_holds ts xs a
  last_holds ts xs (t.named w a) = tok (tok (ty_holds ts xs a))

bounded_holds : (ts : Abbreviations) (xs : Names) (a : t.Ty) → HasPoints (bounded_scan ts xs a) (in_order (bounded_type ts xs a))
bounded_holds ts xs a = ty_holds ts xs a ▹ pt nil

type_holds : (ts : Abbreviations) (xs : Names) (a : t.Ty) → HasPoints (whole_type_scan ts xs a) (in_order (whole_type ts xs a))
unfolding whole_type
type_holds ts xs a = bounded_holds ts xs a ▹ pt nil

named_holds : (ts : Abbreviations) (xs : Names) (w : SWord) (a : t.Ty) → HasPoints (named_scan ts xs w a) (in_order (whole_type ts xs a))
named_holds ts xs w a = tok (tok (type_holds ts xs a))

binder_holds : (ts : Abbreviations) (xs : Names) (w : SWord) (a : t.Ty) → HasPoints (binder_scan ts xs w a) (in_order (whole_type ts xs a))
binder_holds ts xs w a = tok (ending (named_holds ts xs w a) (tok (tok nil)))

-- the points of a head with others behind it
message_joined : (xs : Names) (s : Span) (m : t.Msg) (l : List Point) → in_order (message_head xs s m) ++ l ≡ adds 1 s ∷ (in_order (part xs m) ++ l)
unfolding message_head
message_joined xs s m l = refl

messages_are : (xs : Names) (s : Span) (m n : t.Msg) → in_order (messages_head xs s m n) ≡ adds 1 s ∷ (in_order (part xs m) ++ in_order (part xs n))
unfolding messages_head
messages_are xs s m n = refl

messages_joined : (xs : Names) (s : Span) (m n : t.Msg) (l : List Point) → in_order (messages_head xs s m n) ++ l ≡ adds 1 s ∷ (in_order (part xs m) ++ (in_order (part xs n) ++ l))
unfolding messages_head
messages_joined xs s m n l = ap (λ r. adds 1 s ∷ r) (append_assoc (in_order (part xs m)) (in_order (part xs n)) l)

typed_joined : (ts : Abbreviations) (xs : Names) (s : Span) (m : t.Msg) (a : t.Ty) (l : List Point)
    → in_order (typed_head ts xs s m a) ++ l ≡ adds 1 s ∷ (in_order (part xs m) ++ (in_order (whole_type ts xs a) ++ l))
unfolding typed_head
typed_joined ts xs s m a l = ap (λ r. adds 1 s ∷ r) (append_assoc (in_order (part xs m)) (in_order (whole_type ts xs a)) l)

new_joined : (ts : Abbreviations) (xs : Names) (s : Span) (a : t.Ty) (l : List Point) → in_order (new_head ts xs s a) ++ l ≡ adds 1 s ∷ (in_order (whole_type ts xs a) ++ l)
unfolding new_head
new_joined ts xs s a l = refl

three : (a b c l : List Point) → (a ++ (b ++ c)) ++ l ≡ a ++ (b ++ (c ++ l))
three a b c l = append_assoc a (b ++ c) l ∙ ap (λ x. a ++ x) (append_assoc b c l)

tested_joined : (ts : Abbreviations) (xs : Names) (s : Span) (m : t.Msg) (a : t.Ty) (n : t.Msg) (l : List Point)
    → in_order (tested_head ts xs s m a n) ++ l ≡ adds 1 s ∷ (in_order (part xs m) ++ (in_order (whole_type ts xs a) ++ (in_order (part xs n) ++ l)))
unfolding tested_head
tested_joined ts xs s m a n l = ap (λ r. adds 1 s ∷ r) (three (in_order (part xs m)) (in_order (whole_type ts xs a)) (in_order (part xs n)) l)

split_joined : (ts : Abbreviations) (xs : Names) (s : Span) (m : t.Msg) (x : SWord) (a c : t.Ty) (l : List Point)
    → in_order (split_head ts xs s m x a c) ++ l ≡ adds 1 s ∷ (in_order (part xs m) ++ (in_order (whole_type ts xs a) ++ (in_order (whole_type ts (x.word ∷ xs) c) ++ l)))
unfolding split_head
split_joined ts xs s m x a c l = ap (λ r. adds 1 s ∷ r) (three (in_order (part xs m)) (in_order (whole_type ts xs a)) (in_order (whole_type ts (x.word ∷ xs) c)) l)

match_joined : (ts : Abbreviations) (xs : Names) (s : Span) (m : t.Msg) (x : SWord) (a : t.Ty) (n : t.Msg) (c : t.Ty) (l : List Point)
    → in_order (match_head ts xs s m x a n c) ++ l
    ≡ adds 1 s ∷ (in_order (part xs m) ++ (in_order (whole_type ts xs a) ++ (in_order (part xs n) ++ (in_order (whole_type ts (x.word ∷ xs) c) ++ l))))
unfolding match_head
match_joined ts xs s m x a n c l =
    append_assoc (in_order (tested_head ts xs s m a n)) (in_order (whole_type ts (x.word ∷ xs) c)) l ∙ tested_joined ts xs s m a n (in_order (whole_type ts (x.word ∷ xs) c) ++ l)

proc_holds : (ts : Abbreviations) (xs : Names) (p : t.Proc) → HasPoints (process_scan ts xs p) (in_order (process_points ts xs p))
proc_holds ts xs (t.par s p q) = proc_holds ts xs p ▹ tok (pt (proc_holds ts xs q))
proc_holds ts xs (t.out s m n) = cast (messages_are xs s m n) (tok (pt (part_holds xs m ▹ part_holds xs n)))
proc_holds ts xs (t.out_then s m n p) = cast (messages_joined xs s m n _) (tok (pt (part_holds xs m ▹ part_holds xs n ▹ tok (pt (proc_holds ts xs p)))))
proc_holds ts xs (t.inp s m x a p) = cast (typed_joined ts xs s m a _) (tok (pt (part_holds xs m ▹ binder_holds ts xs x a ▹ proc_holds ts (x.word ∷ xs) p)))
proc_holds ts xs (t.repeat s m x a p) = cast (typed_joined ts xs s m a _) (tok (pt (tok (part_holds xs m ▹ binder_holds ts xs x a ▹ proc_holds ts (x.word ∷ xs) p))))
proc_holds ts xs (t.split s m x a y c p) =
    cast (split_joined ts xs s m x a c _)
    (tok (pt (part_holds xs m ▹ tok (tok (named_holds ts xs x a ▹ tok (named_holds ts (x.word ∷ xs) y c ▹ tok (tok (proc_holds ts (y.word ∷ x.word ∷ xs) p))))))))
proc_holds ts xs (t.match s m x a n y c p) =
    cast (match_joined ts xs s m x a n c _)
    (tok (pt (part_holds xs m ▹ tok (tok (named_holds ts xs x a ▹ tok (part_holds xs n ▹ tok (named_holds ts (x.word ∷ xs) y c ▹ tok (tok (proc_holds ts (y.word ∷ xs) p)))))))))
proc_holds ts xs (t.case s m x a p y c q) =
    cast (typed_joined ts xs s m a _)
    (tok (pt (part_holds xs m ▹ tok (tok (binder_holds ts xs x a ▹ proc_holds ts (x.word ∷ xs) p ▹ tok (tok (binder_holds ts xs y c ▹ proc_holds ts (y.word ∷ xs) q)))))))
proc_holds ts xs (t.decrypt s m x a n p) =
    cast (tested_joined ts xs s m a n _) (tok (pt (part_holds xs m ▹ tok (tok (named_holds ts xs x a ▹ tok (part_holds xs n ▹ tok (proc_holds ts (x.word ∷ xs) p)))))))
proc_holds ts xs (t.check s m n p) = cast (messages_joined xs s m n _) (tok (pt (part_holds xs m ▹ tok (part_holds xs n ▹ tok (proc_holds ts xs p)))))
proc_holds ts xs (t.begin s m p) = cast (message_joined xs s m _) (tok (pt (part_holds xs m ▹ tok (proc_holds ts xs p))))
proc_holds ts xs (t.end s m p) = cast (message_joined xs s m _) (tok (pt (part_holds xs m ▹ tok (proc_holds ts xs p))))
proc_holds ts xs (t.end_many s m p) = cast (message_joined xs s m _) (tok (pt (part_holds xs m ▹ tok (proc_holds ts xs p))))
proc_holds ts xs (t.cast s m x a p) = cast (typed_joined ts xs s m a _) (tok (pt (part_holds xs m ▹ tok (binder_holds ts xs x a ▹ proc_holds ts (x.word ∷ xs) p))))
proc_holds ts xs (t.new s x a p) = cast (new_joined ts xs s a _) (tok (pt (binder_holds ts xs x a ▹ proc_holds ts (x.word ∷ xs) p)))
proc_holds ts xs (t.stop s) = record { are = refl }
proc_holds ts xs (t.group s p q) = tok (proc_holds ts xs p ▹ tok (pt (ending (proc_holds ts xs q) (tok nil))))

frees_hold : (xs : Names) (ws : List SWord) → HasPoints (frees_scan xs ws) (in_order (free_points xs ws))
frees_hold xs [] = nil
frees_hold xs (w ∷ ws) = tok (tok (pt (pt (frees_hold (w.word ∷ xs) ws))))

decl_holds : (ts : Abbreviations) (xs : Names) (d : t.Declared) → HasPoints (decl_scan ts xs d) (in_order (decl_points ts xs d))
decl_holds ts xs (t.free s w ws) = tok (tok (pt (pt (ending (frees_hold (w.word ∷ xs) ws) (tok nil)))))
decl_holds ts xs (t.abbreviated s w a) = tok (tok (pt (tok (ending (type_holds ts xs a) (tok nil)))))

decls_hold : (ts : Abbreviations) (xs : Names) (ds : List t.Declared) → HasPoints (decls_scan ts xs ds) (in_order (decls_points ts xs ds))
decls_hold ts xs [] = nil
decls_hold ts xs (d ∷ ds) = decl_holds ts xs d ▹ decls_hold (types_behind ts xs d) (names_behind xs d) ds

steps_hold : (i n : ℕ) (xs : List t.Step) → HasPoints (steps_scan i n xs) (in_order (steps_points i n xs))
steps_hold i n [] = nil
steps_hold i n (t.act s k ∷ xs) = tok (pt (tok (tok (steps_hold (i + 1) n xs))))
steps_hold i n (t.talk s k l ∷ xs) = tok (pt (tok (tok (tok (steps_hold (i + 1) n xs)))))

tokens_hold : (ks : List Kind) → HasPoints (map token ks) []
tokens_hold [] = nil
tokens_hold (k ∷ ks) = tok (tokens_hold ks)

numbered_holds : (m : t.Msg) → HasPoints (numbered_scan m) (in_order (numbered_points m))
numbered_holds m = tokens_hold _ ▹ pt nil

numbered_atom_holds : (e : t.Atom) → HasPoints (numbered_atom_scan e) (in_order (numbered_atom_points e))
numbered_atom_holds (t.ends s m) = tok (numbered_holds m)
numbered_atom_holds (t.checks s m) = tok (numbered_holds m)
numbered_atom_holds (t.many s m) = tok (numbered_holds m)

numbered_atoms_hold : (es : List t.Atom) → HasPoints (numbered_atoms_scan es) (in_order (numbered_atoms_points es))
numbered_atoms_hold [] = nil
numbered_atoms_hold (e ∷ es) = tok (numbered_atom_holds e ▹ numbered_atoms_hold es)

written_holds : (es : Option (List t.Atom)) → HasPoints (written_scan es) (in_order (written_points es))
written_holds None = nil
written_holds (Some []) = record { are = refl }
written_holds (Some (e ∷ es)) = tok (numbered_atom_holds e ▹ ending (numbered_atoms_hold es) (tok nil))

mutual
  deriv_holds : (d : t.Deriv) → HasPoints (deriv_scan d) (in_order (deriv_points d))
  deriv_holds (t.rule s w es ds) = tok (written_holds es ▹ derivs_hold ds)

  derivs_hold : (ds : t.Derivs) → HasPoints (derivs_scan ds) (in_order (derivs_points ds))
  derivs_hold t.no_derivs = nil
  derivs_hold (t.more_derivs d ds) = deriv_holds d ▹ derivs_hold ds

version_holds : (v : ℕ) → HasPoints (version_scan v) []
version_holds v = by (v == 2)
  where
    by : (b : Bool) → HasPoints (if b then version_scan 2 else []) []
    by true = record { are = refl }
    by false = nil

opponent_holds : (ts : Abbreviations) (xs : Names) (o : Option t.Proc) → HasPoints (opponent_scan ts xs o) (in_order (opponent_points ts xs o))
opponent_holds ts xs None = nil
opponent_holds ts xs (Some p) = tok (proc_holds ts xs p)

schedule_holds : (o : Option (List t.Step)) → HasPoints (schedule_scan o) (in_order (schedule_points o))
schedule_holds None = nil
schedule_holds (Some xs) = tok (steps_hold 1 (length xs) xs)

derivation_holds : (o : Option t.Deriv) → HasPoints (derivation_scan o) (in_order (derivation_points o))
derivation_holds None = nil
derivation_holds (Some d) = tok (deriv_holds d)

file_holds : (f : t.File) → HasPoints (file_scan f) (in_order (file_points f))
file_holds f =
    let ts = all_types [] [] f.decls in
    let xs = all_names [] f.decls in
    version_holds f.version ▹ decls_hold [] [] f.decls
    ▹ tok (proc_holds ts xs f.process ▹ opponent_holds ts xs f.opponent ▹ schedule_holds f.schedule ▹ derivation_holds f.derivation)

pub points_scanned : (f : t.File) → points_in_scan (file_scan f) ≡ in_order (file_points f)
points_scanned f = (file_holds f).are
