-- What a tree stands for doesn't depend on its spans.
use Rattle.std.proofs.Common.{◌≡◌, ℕ, ◌+◌, Bool, true, false, List, [], ◌∷◌, ◌++◌, length, map, reverse, Option, Some, None, refl, sym, ap, subst, ◌∙◌}
use Rattle.std.specs.Prelude.{◌↔◌, nat_lt, if◌then◌else◌}
use Rattle.std.proofs.lemmas.List.{length-map}
use Rattle.spi_text.specs.declared.lines.Span.{Span}
use Rattle.spi_tree.specs.declared.tree.SWord.{SWord}
use Rattle.spi_tree.specs.Trees as t
use Rattle.spi_parse.specs.Bare.{bare_word, bare_msg, bare_msgs, bare_atom, bare_ty, bare_fields, bare_last, bare_proc, bare_decl, bare_step, bare_written, bare_deriv, bare_derivs, bare_opponent, bare_schedule, bare_derivation, bare_file}
use Rattle.spi_scope.specs.declared.fault.ScopeFault.{ScopeFault}
use Rattle.spi_scope.specs.Scope.{Names, Abbreviations}
use Rattle.spi_scope.specs.Meaning.{message_in, messages_in, atom_in, effect_in, behind, type_in, fields_in, last_in, process_in}
use Rattle.spi_scope.specs.Parts.{step_in, step_span, numbered_message, numbered_messages, numbered_atom, numbered_effect, uses_in, all_uses_in}
use Rattle.spi_scope.specs.Points.{Point, uses_name, uses_type, declares_name, declares_type, ends_message, ends_type, adds, starts_step, fault_at, added, Points, none, one, ◌⨾◌, in_order, msg_span, ty_span, message_points, messages_points, message_points_whole, atom_points, atoms_points, type_points, fields_points, last_points, whole_type, part, message_head, messages_head, typed_head, new_head, tested_head, split_head, match_head, process_points, free_points, with_free, decl_points, names_behind, types_behind, decls_points, all_names, all_types, opponent_points, steps_points, schedule_points, numbered_points, numbered_atom_points, numbered_atoms_points, written_points, deriv_points, derivs_points, derivation_points, body_points, file_points}
use Rattle.spi_scope.specs.First.{Clean}
use Rattle.spi_scope.specs.StandsFor.{Meant, StandsFor, over_free, opponent_over, schedule_in, derivation_in}
use Rattle.spi_tree.specs.Trees.{nowhere}

-- what stands for each part stands for all
each_bared : {A B : Type 0} (f : A → B) (bare : A → A) → ((x : A) → f (bare x) ≡ f x) → (xs : List A) → map f (map bare xs) ≡ map f xs
each_bared f bare same [] = refl
each_bared f bare same (x ∷ xs) = λ i. same x i ∷ each_bared f bare same xs i

-- ---- messages, types and processes

-- what a message means, what it means in a derivation, and where it stands
module _ (k : ℕ) (xs : Names) where
  mutual
    same_message : (m : t.Msg) → (message_in k xs (bare_msg m) ≡ message_in k xs m) × (numbered_message (bare_msg m) ≡ numbered_message m) × (msg_span (bare_msg m) ≡ nowhere)
    same_message (t.name s w) = (refl, refl, refl)
    same_message (t.unit s) = (refl, refl, refl)
    same_message (t.tuple s a b ms) =
        let (a0, a1, a2) = same_message a in
        let (b0, b1, b2) = same_message b in
        let (m0, m1) = same_messages ms in
        (rw (a0, b0, m0) refl, rw (a1, b1, m1) refl, refl)
    same_message (t.inl s a) = let (a0, a1, a2) = same_message a in (rw a0 refl, rw a1 refl, refl)
    same_message (t.inr s a) = let (a0, a1, a2) = same_message a in (rw a0 refl, rw a1 refl, refl)
    same_message (t.enc s a b) =
        let (a0, a1, a2) = same_message a in
        let (b0, b1, b2) = same_message b in
        (rw (a0, b0) refl, rw (a1, b1) refl, refl)
    same_message (t.hash s a) = let (a0, a1, a2) = same_message a in (rw a0 refl, rw a1 refl, refl)
    same_message (t.num s i) = (refl, refl, refl)

    same_messages : (ms : t.Msgs) → (messages_in k xs (bare_msgs ms) ≡ messages_in k xs ms) × (numbered_messages (bare_msgs ms) ≡ numbered_messages ms)
    same_messages t.no_msgs = (refl, refl)
    same_messages (t.more_msgs m ms) =
        let (a0, a1, a2) = same_message m in
        let (m0, m1) = same_messages ms in
        (rw (a0, m0) refl, rw (a1, m1) refl)

  pub message_bared : (m : t.Msg) → message_in k xs (bare_msg m) ≡ message_in k xs m
  message_bared m = (same_message m).0

  atom_bared : (e : t.Atom) → atom_in k xs (bare_atom e) ≡ atom_in k xs e
  atom_bared (t.ends s m) = rw (message_bared m) refl
  atom_bared (t.checks s m) = rw (message_bared m) refl
  atom_bared (t.many s m) = rw (message_bared m) refl

  effect_bared : (es : List t.Atom) → effect_in k xs (map bare_atom es) ≡ effect_in k xs es
  effect_bared = each_bared (atom_in k xs) bare_atom atom_bared

behind_bared : (xs : Names) (fs : t.Fields) → behind xs (bare_fields fs) ≡ behind xs fs
behind_bared xs t.no_fields = refl
behind_bared xs (t.more_fields w a fs) = behind_bared (w.word ∷ xs) fs

-- what a type means, and where it stands
module _ (k : ℕ) (ts : Abbreviations) where
  mutual
    same_type : (xs : Names) (a : t.Ty) → (type_in k ts xs (bare_ty a) ≡ type_in k ts xs a) × (ty_span (bare_ty a) ≡ nowhere)
    same_type xs (t.un s) = (refl, refl)
    same_type xs (t.unit_ty s) = (refl, refl)
    same_type xs (t.tuple_ty s w a fs l) =
        (rw ((same_type xs a).0, fields_bared (w.word ∷ xs) fs, behind_bared (w.word ∷ xs) fs, last_bared (behind (w.word ∷ xs) fs) l) refl, refl)
    same_type xs (t.sum s a b) = (rw ((same_type xs a).0, (same_type xs b).0) refl, refl)
    same_type xs (t.key s a) = (rw ((same_type xs a).0) refl, refl)
    same_type xs (t.nonce s es) = (rw (effect_bared k xs es) refl, refl)
    same_type xs (t.abbr s w) = (refl, refl)

    fields_bared : (xs : Names) (fs : t.Fields) → fields_in k ts xs (bare_fields fs) ≡ fields_in k ts xs fs
    fields_bared xs t.no_fields = refl
    fields_bared xs (t.more_fields w a fs) = rw ((same_type xs a).0, fields_bared (w.word ∷ xs) fs) refl

    last_bared : (xs : Names) (l : t.Last) → last_in k ts xs (bare_last l) ≡ last_in k ts xs l
    last_bared xs (t.bare a) = (same_type xs a).0
    last_bared xs (t.named w a) = (same_type xs a).0

  pub type_bared : (xs : Names) (a : t.Ty) → type_in k ts xs (bare_ty a) ≡ type_in k ts xs a
  type_bared xs a = (same_type xs a).0

module _ (b : ℕ → ℕ) (ts : Abbreviations) where
  abbrev low : Names → ℕ
  low xs = b (length xs)

  pub process_bared : (xs : Names) (p : t.Proc) → process_in b ts xs (bare_proc p) ≡ process_in b ts xs p
  process_bared xs (t.par s p q) = rw (process_bared xs p, process_bared xs q) refl
  process_bared xs (t.out s m n) = rw (message_bared (low xs) xs m, message_bared (low xs) xs n) refl
  process_bared xs (t.out_then s m n p) = rw (message_bared (low xs) xs m, message_bared (low xs) xs n, process_bared xs p) refl
  process_bared xs (t.inp s m x a p) = rw (message_bared (low xs) xs m, type_bared (low xs) ts xs a, process_bared (x.word ∷ xs) p) refl
  process_bared xs (t.repeat s m x a p) = rw (message_bared (low xs) xs m, type_bared (low xs) ts xs a, process_bared (x.word ∷ xs) p) refl
  process_bared xs (t.split s m x a y c p) =
      rw (message_bared (low xs) xs m, type_bared (low xs) ts xs a, type_bared (low xs) ts (x.word ∷ xs) c, process_bared (y.word ∷ x.word ∷ xs) p) refl
  process_bared xs (t.match s m x a n y c p) =
      rw (message_bared (low xs) xs m, type_bared (low xs) ts xs a, message_bared (low xs) xs n, type_bared (low xs) ts (x.word ∷ xs) c, process_bared (y.word ∷ xs) p) refl
  process_bared xs (t.case s m x a p y c q) =
      rw (message_bared (low xs) xs m, type_bared (low xs) ts xs a, process_bared (x.word ∷ xs) p, type_bared (low xs) ts xs c, process_bared (y.word ∷ xs) q) refl
  process_bared xs (t.decrypt s m x a n p) =
      rw (message_bared (low xs) xs m, type_bared (low xs) ts xs a, message_bared (low xs) xs n, process_bared (x.word ∷ xs) p) refl
  process_bared xs (t.check s m n p) = rw (message_bared (low xs) xs m, message_bared (low xs) xs n, process_bared xs p) refl
  process_bared xs (t.begin s m p) = rw (message_bared (low xs) xs m, process_bared xs p) refl
  process_bared xs (t.end s m p) = rw (message_bared (low xs) xs m, process_bared xs p) refl
  process_bared xs (t.end_many s m p) = rw (message_bared (low xs) xs m, process_bared xs p) refl
  process_bared xs (t.cast s m x a p) = rw (message_bared (low xs) xs m, type_bared (low xs) ts xs a, process_bared (x.word ∷ xs) p) refl
  process_bared xs (t.new s x a p) = rw (type_bared (low xs) ts xs a, process_bared (x.word ∷ xs) p) refl
  process_bared xs (t.stop s) = refl
  process_bared xs (t.group s p q) = rw (process_bared xs p, process_bared xs q) refl

-- ---- declarations

with_free_bared : (xs : Names) (ws : List SWord) → with_free xs (map bare_word ws) ≡ with_free xs ws
with_free_bared xs [] = refl
with_free_bared xs (w ∷ ws) = with_free_bared (w.word ∷ xs) ws

names_behind_bared : (xs : Names) (d : t.Declared) → names_behind xs (bare_decl d) ≡ names_behind xs d
names_behind_bared xs (t.free s w ws) = with_free_bared (w.word ∷ xs) ws
names_behind_bared xs (t.abbreviated s w a) = refl

types_behind_bared : (ts : Abbreviations) (xs : Names) (d : t.Declared) → types_behind ts xs (bare_decl d) ≡ types_behind ts xs d
types_behind_bared ts xs (t.free s w ws) = refl
types_behind_bared ts xs (t.abbreviated s w a) = rw (type_bared (length xs) ts xs a) refl

pub names_bared : (xs : Names) (ds : List t.Declared) → all_names xs (map bare_decl ds) ≡ all_names xs ds
names_bared xs [] = refl
names_bared xs (d ∷ ds) = names_bared (names_behind xs (bare_decl d)) ds ∙ ap (λ (ys : Names). all_names ys ds) (names_behind_bared xs d)

pub types_bared : (ts : Abbreviations) (xs : Names) (ds : List t.Declared) → all_types ts xs (map bare_decl ds) ≡ all_types ts xs ds
types_bared ts xs [] = refl
types_bared ts xs (d ∷ ds) =
    types_bared (types_behind ts xs (bare_decl d)) (names_behind xs (bare_decl d)) ds
    ∙ ap (λ (us : Abbreviations). all_types us (names_behind xs (bare_decl d)) ds) (types_behind_bared ts xs d)
    ∙ ap (λ (ys : Names). all_types (types_behind ts xs d) ys ds) (names_behind_bared xs d)

-- ---- the parts of a file

over_bared : (ts : Abbreviations) (xs : Names) (p : t.Proc) → over_free ts xs (bare_proc p) ≡ over_free ts xs p
over_bared ts xs p = rw (process_bared (λ s. length xs) ts xs p) refl

opponent_bared : (ts : Abbreviations) (xs : Names) (o : Option t.Proc) → opponent_over ts xs (bare_opponent o) ≡ opponent_over ts xs o
opponent_bared ts xs None = refl
opponent_bared ts xs (Some p) = rw (over_bared ts xs p) refl

step_bared : (x : t.Step) → step_in (bare_step x) ≡ step_in x
step_bared (t.act s i) = refl
step_bared (t.talk s i j) = refl

steps_bared : (xs : List t.Step) → map step_in (map bare_step xs) ≡ map step_in xs
steps_bared = each_bared step_in bare_step step_bared

schedule_bared : (o : Option (List t.Step)) → schedule_in (bare_schedule o) ≡ schedule_in o
schedule_bared None = refl
schedule_bared (Some xs) = rw (steps_bared xs) refl

pub numbered_bared : (m : t.Msg) → numbered_message (bare_msg m) ≡ numbered_message m
numbered_bared m = (same_message 0 [] m).1

numbered_atom_bared : (e : t.Atom) → numbered_atom (bare_atom e) ≡ numbered_atom e
numbered_atom_bared (t.ends s m) = rw (numbered_bared m) refl
numbered_atom_bared (t.checks s m) = rw (numbered_bared m) refl
numbered_atom_bared (t.many s m) = rw (numbered_bared m) refl

numbered_atoms_bared : (es : List t.Atom) → map numbered_atom (map bare_atom es) ≡ map numbered_atom es
numbered_atoms_bared = each_bared numbered_atom bare_atom numbered_atom_bared

written_bared : (o : Option (List t.Atom)) → numbered_effect (bare_written o) ≡ numbered_effect o
written_bared None = refl
written_bared (Some es) = rw (numbered_atoms_bared es) refl

mutual
  uses_bared : (d : t.Deriv) → uses_in (bare_deriv d) ≡ uses_in d
  uses_bared (t.rule s w es ds) = rw (written_bared es, all_uses_bared ds) refl

  all_uses_bared : (ds : t.Derivs) → all_uses_in (bare_derivs ds) ≡ all_uses_in ds
  all_uses_bared t.no_derivs = refl
  all_uses_bared (t.more_derivs d ds) = rw (uses_bared d, all_uses_bared ds) refl

derivation_bared : (o : Option t.Deriv) → derivation_in (bare_derivation o) ≡ derivation_in o
derivation_bared None = refl
derivation_bared (Some d) = rw (uses_bared d) refl

-- ---- points, with no place

abbrev bare_point : Point → Point
bare_point (uses_name xs w) = uses_name xs (bare_word w)
bare_point (uses_type ts w) = uses_type ts (bare_word w)
bare_point (declares_name xs w) = declares_name xs (bare_word w)
bare_point (declares_type ts w) = declares_type ts (bare_word w)
bare_point (ends_message n s) = ends_message n nowhere
bare_point (ends_type n s) = ends_type n nowhere
bare_point (adds n s) = adds n nowhere
bare_point (starts_step i n s) = starts_step i n nowhere

abbrev bare_points : Points → Points
bare_points none = none
bare_points (one p) = one (bare_point p)
bare_points (ps ⨾ qs) = bare_points ps ⨾ bare_points qs

append_bared : (ps qs : List Point) → map bare_point (ps ++ qs) ≡ map bare_point ps ++ map bare_point qs
append_bared [] qs = refl
append_bared (p ∷ ps) qs = ap (λ (l : List Point). bare_point p ∷ l) (append_bared ps qs)

order_bared : (ps : Points) → in_order (bare_points ps) ≡ map bare_point (in_order ps)
order_bared none = refl
order_bared (one p) = refl
order_bared (ps ⨾ qs) = rw (order_bared ps, order_bared qs) (sym (append_bared (in_order ps) (in_order qs)))

when_none : (b : Bool) (f g : ScopeFault) → ((if b then Some f else None) ≡ None) ↔ ((if b then Some g else None) ≡ None)
when_none true f g = (λ h. absurd cc, λ h. absurd cc)
when_none false f g = (λ h. refl, λ h. refl)

else_none : (b : Bool) (f g : ScopeFault) → ((if b then None else Some f) ≡ None) ↔ ((if b then None else Some g) ≡ None)
else_none true f g = (λ h. refl, λ h. refl)
else_none false f g = (λ h. absurd cc, λ h. absurd cc)

point_bared : (c : ℕ) (p : Point) → (fault_at c p ≡ None) ↔ (fault_at c (bare_point p) ≡ None)
point_bared c (uses_name xs w) = else_none _ _ _
point_bared c (uses_type ts w) = else_none _ _ _
point_bared c (declares_name xs w) = when_none _ _ _
point_bared c (declares_type ts w) = when_none _ _ _
point_bared c (ends_message n s) = when_none (nat_lt 200 n) _ _
point_bared c (ends_type n s) = when_none (nat_lt 1000 n) _ _
point_bared c (adds n s) = when_none (nat_lt 100000 (c + n)) _ _
point_bared c (starts_step i n s) = when_none (nat_lt 10000 i) _ _

added_bared : (p : Point) → added (bare_point p) ≡ added p
added_bared (uses_name xs w) = refl
added_bared _ = refl

clean_bared : (c : ℕ) (ps : List Point) → Clean c ps → Clean c (map bare_point ps)
clean_bared c [] h = tt
clean_bared c (p ∷ ps) h = ((point_bared c p).0 h.0, subst (λ (n : ℕ). Clean (c + n) (map bare_point ps)) (sym (added_bared p)) (clean_bared (c + added p) ps h.1))

clean_back : (c : ℕ) (ps : List Point) → Clean c (map bare_point ps) → Clean c ps
clean_back c [] h = tt
clean_back c (p ∷ ps) h = ((point_bared c p).1 h.0, clean_back (c + added p) ps (subst (λ (n : ℕ). Clean (c + n) (map bare_point ps)) (added_bared p) h.1))

-- ---- the points of a tree

msg_span_bared : (m : t.Msg) → msg_span (bare_msg m) ≡ nowhere
msg_span_bared m = (same_message 0 [] m).2

module _ (xs : Names) where
  mutual
    message_points_bared : (m : t.Msg) → message_points xs (bare_msg m) ≡ bare_points (message_points xs m)
    message_points_bared (t.name s w) = refl
    message_points_bared (t.unit s) = refl
    message_points_bared (t.tuple s a b ms) = rw (message_points_bared a, message_points_bared b, messages_points_bared ms) refl
    message_points_bared (t.inl s a) = message_points_bared a
    message_points_bared (t.inr s a) = message_points_bared a
    message_points_bared (t.enc s a b) = rw (message_points_bared a, message_points_bared b) refl
    message_points_bared (t.hash s a) = message_points_bared a
    message_points_bared (t.num s i) = refl

    messages_points_bared : (ms : t.Msgs) → messages_points xs (bare_msgs ms) ≡ bare_points (messages_points xs ms)
    messages_points_bared t.no_msgs = refl
    messages_points_bared (t.more_msgs m ms) = rw (message_points_bared m, messages_points_bared ms) refl

  whole_message_bared : (m : t.Msg) → message_points_whole xs (bare_msg m) ≡ bare_points (message_points_whole xs m)
  whole_message_bared m = rw (message_points_bared m, message_bared 0 xs m, msg_span_bared m) refl

  atom_points_bared : (e : t.Atom) → atom_points xs (bare_atom e) ≡ bare_points (atom_points xs e)
  atom_points_bared (t.ends s m) = whole_message_bared m
  atom_points_bared (t.checks s m) = whole_message_bared m
  atom_points_bared (t.many s m) = whole_message_bared m

  atoms_points_bared : (es : List t.Atom) → atoms_points xs (map bare_atom es) ≡ bare_points (atoms_points xs es)
  atoms_points_bared [] = refl
  atoms_points_bared (e ∷ es) = rw (atom_points_bared e, atoms_points_bared es) refl

module _ (ts : Abbreviations) where
  mutual
    type_points_bared : (xs : Names) (a : t.Ty) → type_points ts xs (bare_ty a) ≡ bare_points (type_points ts xs a)
    type_points_bared xs (t.un s) = refl
    type_points_bared xs (t.unit_ty s) = refl
    type_points_bared xs (t.tuple_ty s w a fs l) =
        rw (type_points_bared xs a, fields_points_bared (w.word ∷ xs) fs, behind_bared (w.word ∷ xs) fs, last_points_bared (behind (w.word ∷ xs) fs) l) refl
    type_points_bared xs (t.sum s a b) = rw (type_points_bared xs a, type_points_bared xs b) refl
    type_points_bared xs (t.key s a) = type_points_bared xs a
    type_points_bared xs (t.nonce s es) = atoms_points_bared xs es
    type_points_bared xs (t.abbr s w) = refl

    fields_points_bared : (xs : Names) (fs : t.Fields) → fields_points ts xs (bare_fields fs) ≡ bare_points (fields_points ts xs fs)
    fields_points_bared xs t.no_fields = refl
    fields_points_bared xs (t.more_fields w a fs) = rw (type_points_bared xs a, fields_points_bared (w.word ∷ xs) fs) refl

    last_points_bared : (xs : Names) (l : t.Last) → last_points ts xs (bare_last l) ≡ bare_points (last_points ts xs l)
    last_points_bared xs (t.bare a) = type_points_bared xs a
    last_points_bared xs (t.named w a) = type_points_bared xs a

  whole_type_bared : (xs : Names) (a : t.Ty) → whole_type ts xs (bare_ty a) ≡ bare_points (whole_type ts xs a)
  unfolding whole_type
  whole_type_bared xs a = rw (type_points_bared xs a, type_bared 0 ts xs a, (same_type 0 ts xs a).1) refl

part_bared : (xs : Names) (m : t.Msg) → part xs (bare_msg m) ≡ bare_points (part xs m)
unfolding part
part_bared xs m = rw (whole_message_bared xs m, message_bared 0 xs m, msg_span_bared m) refl

message_head_bared : (xs : Names) (s : Span) (m : t.Msg) → message_head xs nowhere (bare_msg m) ≡ bare_points (message_head xs s m)
unfolding message_head
message_head_bared xs s m = rw (part_bared xs m) refl

messages_head_bared : (xs : Names) (s : Span) (m n : t.Msg) → messages_head xs nowhere (bare_msg m) (bare_msg n) ≡ bare_points (messages_head xs s m n)
unfolding messages_head
messages_head_bared xs s m n = rw (part_bared xs m, part_bared xs n) refl

module _ (ts : Abbreviations) (xs : Names) (s : Span) where
  typed_head_bared : (m : t.Msg) (a : t.Ty) → typed_head ts xs nowhere (bare_msg m) (bare_ty a) ≡ bare_points (typed_head ts xs s m a)
  unfolding typed_head
  typed_head_bared m a = rw (part_bared xs m, whole_type_bared ts xs a) refl

  new_head_bared : (a : t.Ty) → new_head ts xs nowhere (bare_ty a) ≡ bare_points (new_head ts xs s a)
  unfolding new_head
  new_head_bared a = rw (whole_type_bared ts xs a) refl

  tested_head_bared : (m : t.Msg) (a : t.Ty) (n : t.Msg) → tested_head ts xs nowhere (bare_msg m) (bare_ty a) (bare_msg n) ≡ bare_points (tested_head ts xs s m a n)
  unfolding tested_head
  tested_head_bared m a n = rw (part_bared xs m, whole_type_bared ts xs a, part_bared xs n) refl

  split_head_bared : (m : t.Msg) (x : SWord) (a c : t.Ty) → split_head ts xs nowhere (bare_msg m) (bare_word x) (bare_ty a) (bare_ty c) ≡ bare_points (split_head ts xs s m x a c)
  unfolding split_head
  split_head_bared m x a c = rw (part_bared xs m, whole_type_bared ts xs a, whole_type_bared ts (x.word ∷ xs) c) refl

  match_head_bared : (m : t.Msg) (x : SWord) (a : t.Ty) (n : t.Msg) (c : t.Ty) → match_head ts xs nowhere (bare_msg m) (bare_word x) (bare_ty a) (bare_msg n) (bare_ty c) ≡ bare_points (match_head ts xs s m x a n c)
  unfolding match_head
  match_head_bared m x a n c = rw (tested_head_bared m a n, whole_type_bared ts (x.word ∷ xs) c) refl

process_points_bared : (ts : Abbreviations) (xs : Names) (p : t.Proc) → process_points ts xs (bare_proc p) ≡ bare_points (process_points ts xs p)
process_points_bared ts xs (t.par s p q) = rw (process_points_bared ts xs p, process_points_bared ts xs q) refl
process_points_bared ts xs (t.out s m n) = messages_head_bared xs s m n
process_points_bared ts xs (t.out_then s m n p) = rw (messages_head_bared xs s m n, process_points_bared ts xs p) refl
process_points_bared ts xs (t.inp s m x a p) = rw (typed_head_bared ts xs s m a, process_points_bared ts (x.word ∷ xs) p) refl
process_points_bared ts xs (t.repeat s m x a p) = rw (typed_head_bared ts xs s m a, process_points_bared ts (x.word ∷ xs) p) refl
process_points_bared ts xs (t.split s m x a y c p) = rw (split_head_bared ts xs s m x a c, process_points_bared ts (y.word ∷ x.word ∷ xs) p) refl
process_points_bared ts xs (t.match s m x a n y c p) = rw (match_head_bared ts xs s m x a n c, process_points_bared ts (y.word ∷ xs) p) refl
process_points_bared ts xs (t.case s m x a p y c q) =
    rw (typed_head_bared ts xs s m a, process_points_bared ts (x.word ∷ xs) p, whole_type_bared ts xs c, process_points_bared ts (y.word ∷ xs) q) refl
process_points_bared ts xs (t.decrypt s m x a n p) = rw (tested_head_bared ts xs s m a n, process_points_bared ts (x.word ∷ xs) p) refl
process_points_bared ts xs (t.check s m n p) = rw (messages_head_bared xs s m n, process_points_bared ts xs p) refl
process_points_bared ts xs (t.begin s m p) = rw (message_head_bared xs s m, process_points_bared ts xs p) refl
process_points_bared ts xs (t.end s m p) = rw (message_head_bared xs s m, process_points_bared ts xs p) refl
process_points_bared ts xs (t.end_many s m p) = rw (message_head_bared xs s m, process_points_bared ts xs p) refl
process_points_bared ts xs (t.cast s m x a p) = rw (typed_head_bared ts xs s m a, process_points_bared ts (x.word ∷ xs) p) refl
process_points_bared ts xs (t.new s x a p) = rw (new_head_bared ts xs s a, process_points_bared ts (x.word ∷ xs) p) refl
process_points_bared ts xs (t.stop s) = refl
process_points_bared ts xs (t.group s p q) = rw (process_points_bared ts xs p, process_points_bared ts xs q) refl

free_points_bared : (xs : Names) (ws : List SWord) → free_points xs (map bare_word ws) ≡ bare_points (free_points xs ws)
free_points_bared xs [] = refl
free_points_bared xs (w ∷ ws) = rw (free_points_bared (w.word ∷ xs) ws) refl

decl_points_bared : (ts : Abbreviations) (xs : Names) (d : t.Declared) → decl_points ts xs (bare_decl d) ≡ bare_points (decl_points ts xs d)
decl_points_bared ts xs (t.free s w ws) = free_points_bared xs (w ∷ ws)
decl_points_bared ts xs (t.abbreviated s w a) = rw (whole_type_bared ts xs a) refl

decls_points_bared : (ts : Abbreviations) (xs : Names) (ds : List t.Declared) → decls_points ts xs (map bare_decl ds) ≡ bare_points (decls_points ts xs ds)
decls_points_bared ts xs [] = refl
decls_points_bared ts xs (d ∷ ds) =
    rw (decl_points_bared ts xs d, types_behind_bared ts xs d, names_behind_bared xs d, decls_points_bared (types_behind ts xs d) (names_behind xs d) ds) refl

opponent_points_bared : (ts : Abbreviations) (xs : Names) (o : Option t.Proc) → opponent_points ts xs (bare_opponent o) ≡ bare_points (opponent_points ts xs o)
opponent_points_bared ts xs None = refl
opponent_points_bared ts xs (Some p) = process_points_bared ts xs p

step_span_bared : (x : t.Step) → step_span (bare_step x) ≡ nowhere
step_span_bared (t.act s i) = refl
step_span_bared (t.talk s i j) = refl

steps_points_bared : (i n : ℕ) (xs : List t.Step) → steps_points i n (map bare_step xs) ≡ bare_points (steps_points i n xs)
steps_points_bared i n [] = refl
steps_points_bared i n (x ∷ xs) = rw (step_span_bared x, steps_points_bared (i + 1) n xs) refl

schedule_points_bared : (o : Option (List t.Step)) → schedule_points (bare_schedule o) ≡ bare_points (schedule_points o)
schedule_points_bared None = refl
schedule_points_bared (Some xs) = rw (length-map xs bare_step) (steps_points_bared 1 (length xs) xs)

numbered_points_bared : (m : t.Msg) → numbered_points (bare_msg m) ≡ bare_points (numbered_points m)
numbered_points_bared m = rw (numbered_bared m, msg_span_bared m) refl

numbered_atom_points_bared : (e : t.Atom) → numbered_atom_points (bare_atom e) ≡ bare_points (numbered_atom_points e)
numbered_atom_points_bared (t.ends s m) = numbered_points_bared m
numbered_atom_points_bared (t.checks s m) = numbered_points_bared m
numbered_atom_points_bared (t.many s m) = numbered_points_bared m

numbered_atoms_points_bared : (es : List t.Atom) → numbered_atoms_points (map bare_atom es) ≡ bare_points (numbered_atoms_points es)
numbered_atoms_points_bared [] = refl
numbered_atoms_points_bared (e ∷ es) = rw (numbered_atom_points_bared e, numbered_atoms_points_bared es) refl

written_points_bared : (o : Option (List t.Atom)) → written_points (bare_written o) ≡ bare_points (written_points o)
written_points_bared None = refl
written_points_bared (Some es) = numbered_atoms_points_bared es

mutual
  deriv_points_bared : (d : t.Deriv) → deriv_points (bare_deriv d) ≡ bare_points (deriv_points d)
  deriv_points_bared (t.rule s w es ds) = rw (written_points_bared es, derivs_points_bared ds) refl

  derivs_points_bared : (ds : t.Derivs) → derivs_points (bare_derivs ds) ≡ bare_points (derivs_points ds)
  derivs_points_bared t.no_derivs = refl
  derivs_points_bared (t.more_derivs d ds) = rw (deriv_points_bared d, derivs_points_bared ds) refl

derivation_points_bared : (o : Option t.Deriv) → derivation_points (bare_derivation o) ≡ bare_points (derivation_points o)
derivation_points_bared None = refl
derivation_points_bared (Some d) = deriv_points_bared d

body_points_bared : (ts : Abbreviations) (xs : Names) (f : t.File) → body_points ts xs (bare_file f) ≡ bare_points (body_points ts xs f)
body_points_bared ts xs f =
    rw (process_points_bared ts xs f.process, opponent_points_bared ts xs f.opponent, schedule_points_bared f.schedule, derivation_points_bared f.derivation) refl

file_points_bared : (f : t.File) → file_points (bare_file f) ≡ bare_points (file_points f)
file_points_bared f =
    rw (decls_points_bared [] [] f.decls, types_bared [] [] f.decls, names_bared [] f.decls, body_points_bared (all_types [] [] f.decls) (all_names [] f.decls) f) refl

-- ---- files

abbrev bare_order : t.File → List Point
bare_order f = map bare_point (in_order (file_points f))

points_in_order : (f : t.File) → in_order (file_points (bare_file f)) ≡ bare_order f
points_in_order f = ap in_order (file_points_bared f) ∙ order_bared (file_points f)

stands_bared : (f : t.File) (m : Meant) → StandsFor f m → StandsFor (bare_file f) m
stands_bared f m h = record {
  clean = subst (Clean 0) (sym (points_in_order f)) (clean_bared 0 (in_order (file_points f)) h.clean);
  version = h.version;
  names = h.names ∙ sym (ap reverse (names_bared [] f.decls));
  process = rw (types_bared [] [] f.decls, names_bared [] f.decls) (h.process ∙ sym (over_bared _ _ f.process));
  opponent = rw (types_bared [] [] f.decls, names_bared [] f.decls) (h.opponent ∙ sym (opponent_bared _ _ f.opponent));
  schedule = h.schedule ∙ sym (schedule_bared f.schedule);
  derivation = h.derivation ∙ sym (derivation_bared f.derivation);
}

stands_back : (f : t.File) (m : Meant) → StandsFor (bare_file f) m → StandsFor f m
stands_back f m h = record {
  clean = clean_back 0 (in_order (file_points f)) (subst (Clean 0) (points_in_order f) h.clean);
  version = h.version;
  names = h.names ∙ ap reverse (names_bared [] f.decls);
  process = (rw (types_bared [] [] f.decls, names_bared [] f.decls) at h.process) ∙ over_bared _ _ f.process;
  opponent = (rw (types_bared [] [] f.decls, names_bared [] f.decls) at h.opponent) ∙ opponent_bared _ _ f.opponent;
  schedule = h.schedule ∙ schedule_bared f.schedule;
  derivation = h.derivation ∙ derivation_bared f.derivation;
}

-- two trees that differ in their spans alone stand for the same
pub same_meaning : (f g : t.File) (m : Meant) → bare_file g ≡ bare_file f → StandsFor f m → StandsFor g m
same_meaning f g m e h = stands_back g m (subst (λ (x : t.File). StandsFor x m) (sym e) (stands_bared f m h))
