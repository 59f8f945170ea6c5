-- Behind each token of a scan the numbers of its points grow.
use Rattle.std.proofs.Common.{◌≡◌, ℕ, ◌+◌, ◌<◌, ◌≤◌, List, [], ◌∷◌, ◌++◌, length, refl, sym, subst, arith, Bool, true, false}
use Rattle.std.specs.Prelude.{◌==◌, map, Option, Some, None, if◌then◌else◌}
use Rattle.spi_lex.specs.declared.token.Kind.{Kind}
use Rattle.spi_tree.specs.declared.tree.SWord.{SWord}
use Rattle.spi_tree.specs.Trees as t
use Rattle.spi_scope.specs.Scope.{Names, Abbreviations}
use Rattle.spi_scope.specs.Meaning.{behind}
use Rattle.spi_scope.specs.Points.{Point, names_behind, types_behind, all_names, all_types}
use Rattle.spi_scope.specs.Scan.{token, point, Scan, ◌▸◌, message_scan, messages_scan, whole_scan, part_scan, atom_scan, atoms_scan, effect_scan, type_scan, fields_scan, last_scan, bounded_scan, whole_type_scan, named_scan, binder_scan, process_scan, frees_scan, decl_scan, decls_scan, steps_scan, numbered_scan, numbered_atom_scan, numbered_atoms_scan, written_scan, deriv_scan, derivs_scan, version_scan, opponent_scan, schedule_scan, derivation_scan, file_scan}
use Rattle.spi_scope.specs.Standing.{number_at, Grow, StandBehind}

-- the number of the last point behind the last token
abbrev last_scanned : ℕ → Scan → ℕ
last_scanned n [] = n
last_scanned n (token k ∷ s) = last_scanned 0 s
last_scanned n (point p ∷ s) = last_scanned (number_at p) s

grow_on : (n : ℕ) (s t : Scan) → Grow n s → Grow (last_scanned n s) t → Grow n (s ++ t)
grow_on n [] t g h = h
grow_on n (token k ∷ s) t g h = grow_on 0 s t g h
grow_on n (point p ∷ s) t g h = (g.0, grow_on (number_at p) s t g.1 h)

last_on : (n : ℕ) (s t : Scan) → last_scanned n (s ++ t) ≡ last_scanned (last_scanned n s) t
last_on n [] t = refl
last_on n (token k ∷ s) t = last_on 0 s t
last_on n (point p ∷ s) t = last_on (number_at p) s t

-- behind a point with a number up to a, these grow, and the last of them has a number up to b
pub record Climbs (a b : ℕ) (s : Scan) : Type 0 where
  pub go : (n : ℕ) → n ≤ a → Grow n s × (last_scanned n s ≤ b)

nil : {a b : ℕ} → a ≤ b → Climbs a b []
nil {a} {b} h = record { go = λ n g. (tt, omega (arith, g, h)) }

tok : {a b : ℕ} {k : Kind} {s : Scan} → Climbs 0 b s → Climbs a b (token k ∷ s)
tok h = record { go = λ n g. h.go 0 (omega arith) }

pt : {a b : ℕ} {p : Point} {s : Scan} → a < number_at p → Climbs (number_at p) b s → Climbs a b (point p ∷ s)
pt {p} e h = record { go = λ n g. let r = h.go (number_at p) (omega arith) in ((omega (arith, e, g), r.0), r.1) }

infixr 5 ◌▹◌
◌▹◌ : {a b c : ℕ} {s t : Scan} → Climbs a b s → Climbs b c t → Climbs a c (s ▸ t)
◌▹◌ {c} {s} {t} g h =
    record {
      go = λ n i. let q = g.go n i in let r = h.go (last_scanned n s) q.1 in (grow_on n s t q.0 r.0, subst (λ x. x ≤ c) (sym (last_on n s t)) r.1);
    }

mutual
  msg_climbs : {i : ℕ} (xs : Names) (m : t.Msg) → Climbs i 30 (message_scan xs m)
  msg_climbs xs (t.name s w) = tok (pt (omega arith) (nil (omega arith)))
  msg_climbs xs (t.unit s) = tok (tok (nil (omega arith)))
  msg_climbs xs (t.tuple s a b ms) = tok (msg_climbs xs a ▹ tok (msg_climbs xs b ▹ msgs_climb xs ms ▹ tok (nil (omega arith))))
  msg_climbs xs (t.inl s a) = tok (msg_climbs xs a)
  msg_climbs xs (t.inr s a) = tok (msg_climbs xs a)
  msg_climbs xs (t.enc s a b) = tok (msg_climbs xs a ▹ tok (msg_climbs xs b))
  msg_climbs xs (t.hash s a) = tok (tok (msg_climbs xs a ▹ tok (nil (omega arith))))
  msg_climbs xs (t.num s i) = tok (tok (nil (omega arith)))

  msgs_climb : (xs : Names) (ms : t.Msgs) → Climbs 30 30 (messages_scan xs ms)
  msgs_climb xs t.no_msgs = nil (omega arith)
  msgs_climb xs (t.more_msgs m ms) = tok (msg_climbs xs m ▹ msgs_climb xs ms)

whole_climbs : {i : ℕ} (xs : Names) (m : t.Msg) → Climbs i 34 (whole_scan xs m)
whole_climbs xs m = msg_climbs xs m ▹ pt (omega arith) (nil (omega arith))

part_climbs : {i : ℕ} (xs : Names) (m : t.Msg) → Climbs i 36 (part_scan xs m)
part_climbs xs m = whole_climbs xs m ▹ pt (omega arith) (nil (omega arith))

atom_climbs : {i : ℕ} (xs : Names) (e : t.Atom) → Climbs i 34 (atom_scan xs e)
atom_climbs xs (t.ends s m) = tok (whole_climbs xs m)
atom_climbs xs (t.checks s m) = tok (whole_climbs xs m)
atom_climbs xs (t.many s m) = tok (whole_climbs xs m)

atoms_climb : (xs : Names) (es : List t.Atom) → Climbs 34 34 (atoms_scan xs es)
atoms_climb xs [] = nil (omega arith)
atoms_climb xs (e ∷ es) = tok (atom_climbs xs e ▹ atoms_climb xs es)

effect_climbs : {i : ℕ} (xs : Names) (es : List t.Atom) → Climbs i 31 (effect_scan xs es)
effect_climbs xs [] = tok (tok (nil (omega arith)))
effect_climbs xs (e ∷ es) = tok (atom_climbs xs e ▹ atoms_climb xs es ▹ tok (nil (omega arith)))

mutual
  ty_climbs : {i : ℕ} (ts : Abbreviations) (xs : Names) (a : t.Ty) → Climbs i 31 (type_scan ts xs a)
  ty_climbs ts xs (t.un s) = tok (nil (omega arith))
  ty_climbs ts xs (t.unit_ty s) = tok (tok (nil (omega arith)))
  ty_climbs ts xs (t.tuple_ty s w a fs l) =
      tok (tok (tok (ty_climbs ts xs a ▹ tok (fields_climb ts (w.word ∷ xs) fs ▹ last_climbs ts (behind (w.word ∷ xs) fs) l ▹ tok (nil (omega arith))))))
  ty_climbs ts xs (t.sum s a b) = tok (ty_climbs ts xs a ▹ tok (ty_climbs ts xs b ▹ tok (nil (omega arith))))
  ty_climbs ts xs (t.key s a) = tok (tok (ty_climbs ts xs a ▹ tok (nil (omega arith))))
  ty_climbs ts xs (t.nonce s es) = tok (effect_climbs xs es)
  ty_climbs ts xs (t.abbr s w) = tok (pt (omega arith) (nil (omega arith)))

  fields_climb : (ts : Abbreviations) (xs : Names) (fs : t.Fields) → Climbs 0 0 (fields_scan ts xs fs)
  fields_climb ts xs t.no_fields = nil (omega arith)
  fields_climb ts xs (t.more_fields w a fs) = tok (tok (ty_climbs ts xs a ▹ tok (fields_climb ts (w.word ∷ xs) fs)))

  last_climbs : {i : ℕ} (ts : Abbreviations) (xs : Names) (l : t.Last) → Climbs i 31 (last_scan ts xs l)
  last_climbs ts xs (t.bare a) = ty_climbs ts xs a
  last_climbs ts xs (t.named w a) = tok (tok (ty_climbs ts xs a))

bounded_climbs : {i : ℕ} (ts : Abbreviations) (xs : Names) (a : t.Ty) → Climbs i 35 (bounded_scan ts xs a)
bounded_climbs ts xs a = ty_climbs ts xs a ▹ pt (omega arith) (nil (omega arith))

type_climbs : {i : ℕ} (ts : Abbreviations) (xs : Names) (a : t.Ty) → Climbs i 36 (whole_type_scan ts xs a)
type_climbs ts xs a = bounded_climbs ts xs a ▹ pt (omega arith) (nil (omega arith))

named_climbs : {i : ℕ} (ts : Abbreviations) (xs : Names) (w : SWord) (a : t.Ty) → Climbs i 36 (named_scan ts xs w a)
named_climbs ts xs w a = tok (tok (type_climbs ts xs a))

binder_climbs : {i : ℕ} (ts : Abbreviations) (xs : Names) (w : SWord) (a : t.Ty) → Climbs i 0 (binder_scan ts xs w a)
binder_climbs ts xs w a = tok (named_climbs ts xs w a ▹ tok (tok (nil (omega arith))))

proc_climbs : {i : ℕ} (ts : Abbreviations) (xs : Names) (p : t.Proc) → Climbs i 36 (process_scan ts xs p)
proc_climbs ts xs (t.par s p q) = proc_climbs ts xs p ▹ tok (pt (omega arith) (proc_climbs ts xs q))
proc_climbs ts xs (t.out s m n) = tok (pt (omega arith) (part_climbs xs m ▹ part_climbs xs n))
proc_climbs ts xs (t.out_then s m n p) = tok (pt (omega arith) (part_climbs xs m ▹ part_climbs xs n ▹ tok (pt (omega arith) (proc_climbs ts xs p))))
proc_climbs ts xs (t.inp s m x a p) = tok (pt (omega arith) (part_climbs xs m ▹ binder_climbs ts xs x a ▹ proc_climbs ts (x.word ∷ xs) p))
proc_climbs ts xs (t.repeat s m x a p) = tok (pt (omega arith) (tok (part_climbs xs m ▹ binder_climbs ts xs x a ▹ proc_climbs ts (x.word ∷ xs) p)))
proc_climbs ts xs (t.split s m x a y c p) =
    tok (pt (omega arith) (part_climbs xs m ▹ tok (tok (named_climbs ts xs x a ▹ tok (named_climbs ts (x.word ∷ xs) y c ▹ tok (tok (proc_climbs ts (y.word ∷ x.word ∷ xs) p)))))))
proc_climbs ts xs (t.match s m x a n y c p) =
    tok (pt (omega arith) (part_climbs xs m ▹ tok (tok (named_climbs ts xs x a ▹ tok (part_climbs xs n ▹ tok (named_climbs ts (x.word ∷ xs) y c ▹ tok (tok (proc_climbs ts (y.word ∷ xs) p))))))))
proc_climbs ts xs (t.case s m x a p y c q) =
    tok (pt (omega arith) (part_climbs xs m ▹ tok (tok (binder_climbs ts xs x a ▹ proc_climbs ts (x.word ∷ xs) p ▹ tok (tok (binder_climbs ts xs y c ▹ proc_climbs ts (y.word ∷ xs) q))))))
proc_climbs ts xs (t.decrypt s m x a n p) =
    tok (pt (omega arith) (part_climbs xs m ▹ tok (tok (named_climbs ts xs x a ▹ tok (part_climbs xs n ▹ tok (proc_climbs ts (x.word ∷ xs) p))))))
proc_climbs ts xs (t.check s m n p) = tok (pt (omega arith) (part_climbs xs m ▹ tok (part_climbs xs n ▹ tok (proc_climbs ts xs p))))
proc_climbs ts xs (t.begin s m p) = tok (pt (omega arith) (part_climbs xs m ▹ tok (proc_climbs ts xs p)))
proc_climbs ts xs (t.end s m p) = tok (pt (omega arith) (part_climbs xs m ▹ tok (proc_climbs ts xs p)))
proc_climbs ts xs (t.end_many s m p) = tok (pt (omega arith) (part_climbs xs m ▹ tok (proc_climbs ts xs p)))
proc_climbs ts xs (t.cast s m x a p) = tok (pt (omega arith) (part_climbs xs m ▹ tok (binder_climbs ts xs x a ▹ proc_climbs ts (x.word ∷ xs) p)))
proc_climbs ts xs (t.new s x a p) = tok (pt (omega arith) (binder_climbs ts xs x a ▹ proc_climbs ts (x.word ∷ xs) p))
proc_climbs ts xs (t.stop s) = tok (pt (omega arith) (nil (omega arith)))
proc_climbs ts xs (t.group s p q) = tok (proc_climbs ts xs p ▹ tok (pt (omega arith) (proc_climbs ts xs q ▹ tok (nil (omega arith)))))

frees_climb : (xs : Names) (ws : List SWord) → Climbs 36 36 (frees_scan xs ws)
frees_climb xs [] = nil (omega arith)
frees_climb xs (w ∷ ws) = tok (tok (pt (omega arith) (pt (omega arith) (frees_climb (w.word ∷ xs) ws))))

decl_climbs : {i : ℕ} {j : ℕ} (ts : Abbreviations) (xs : Names) (d : t.Declared) → Climbs i j (decl_scan ts xs d)
decl_climbs ts xs (t.free s w ws) = tok (tok (pt (omega arith) (pt (omega arith) (frees_climb (w.word ∷ xs) ws ▹ tok (nil (omega arith))))))
decl_climbs ts xs (t.abbreviated s w a) = tok (tok (pt (omega arith) (tok (type_climbs ts xs a ▹ tok (nil (omega arith))))))

decls_climb : (ts : Abbreviations) (xs : Names) (ds : List t.Declared) → Climbs 37 37 (decls_scan ts xs ds)
decls_climb ts xs [] = nil (omega arith)
decls_climb ts xs (d ∷ ds) = decl_climbs ts xs d ▹ decls_climb (types_behind ts xs d) (names_behind xs d) ds

steps_climb : {j : ℕ} (i n : ℕ) (xs : List t.Step) → Climbs 0 j (steps_scan i n xs)
steps_climb i n [] = nil (omega arith)
steps_climb i n (t.act s k ∷ xs) = tok (pt (omega arith) (tok (tok (steps_climb (i + 1) n xs))))
steps_climb i n (t.talk s k l ∷ xs) = tok (pt (omega arith) (tok (tok (tok (steps_climb (i + 1) n xs)))))

tokens_climb : (ks : List Kind) → Climbs 0 0 (map token ks)
tokens_climb [] = nil (omega arith)
tokens_climb (k ∷ ks) = tok (tokens_climb ks)

numbered_climbs : (m : t.Msg) → Climbs 0 34 (numbered_scan m)
numbered_climbs m = tokens_climb _ ▹ pt (omega arith) (nil (omega arith))

numbered_atom_climbs : {i : ℕ} (e : t.Atom) → Climbs i 34 (numbered_atom_scan e)
numbered_atom_climbs (t.ends s m) = tok (numbered_climbs m)
numbered_atom_climbs (t.checks s m) = tok (numbered_climbs m)
numbered_atom_climbs (t.many s m) = tok (numbered_climbs m)

numbered_atoms_climb : (es : List t.Atom) → Climbs 34 34 (numbered_atoms_scan es)
numbered_atoms_climb [] = nil (omega arith)
numbered_atoms_climb (e ∷ es) = tok (numbered_atom_climbs e ▹ numbered_atoms_climb es)

written_climbs : (es : Option (List t.Atom)) → Climbs 0 0 (written_scan es)
written_climbs None = nil (omega arith)
written_climbs (Some []) = tok (tok (nil (omega arith)))
written_climbs (Some (e ∷ es)) = tok (numbered_atom_climbs e ▹ numbered_atoms_climb es ▹ tok (nil (omega arith)))

mutual
  deriv_climbs : {i : ℕ} {j : ℕ} (d : t.Deriv) → Climbs i j (deriv_scan d)
  deriv_climbs (t.rule s w es ds) = tok (written_climbs es ▹ derivs_climb ds)

  derivs_climb : {j : ℕ} (ds : t.Derivs) → Climbs 0 j (derivs_scan ds)
  derivs_climb t.no_derivs = nil (omega arith)
  derivs_climb (t.more_derivs d ds) = deriv_climbs d ▹ derivs_climb ds

version_climbs : (v : ℕ) → Climbs 37 37 (version_scan v)
version_climbs v = by (v == 2)
  where
    by : (b : Bool) → Climbs 37 37 (if b then version_scan 2 else [])
    by true = tok (tok (tok (nil (omega arith))))
    by false = nil (omega arith)

opponent_climbs : (ts : Abbreviations) (xs : Names) (o : Option t.Proc) → Climbs 36 36 (opponent_scan ts xs o)
opponent_climbs ts xs None = nil (omega arith)
opponent_climbs ts xs (Some p) = tok (proc_climbs ts xs p)

schedule_climbs : (o : Option (List t.Step)) → Climbs 36 36 (schedule_scan o)
schedule_climbs None = nil (omega arith)
schedule_climbs (Some xs) = tok (steps_climb 1 (length xs) xs)

derivation_climbs : (o : Option t.Deriv) → Climbs 36 36 (derivation_scan o)
derivation_climbs None = nil (omega arith)
derivation_climbs (Some d) = tok (deriv_climbs d)

file_climbs : (f : t.File) → Climbs 37 36 (file_scan f)
file_climbs f =
    let ts = all_types [] [] f.decls in
    let xs = all_names [] f.decls in
    version_climbs f.version ▹ decls_climb [] [] f.decls
    ▹ tok (proc_climbs ts xs f.process ▹ opponent_climbs ts xs f.opponent ▹ schedule_climbs f.schedule ▹ derivation_climbs f.derivation)

pub points_stand_behind : (f : t.File) → StandBehind (file_scan f)
points_stand_behind f = ((file_climbs f).go 37 (omega arith)).0
