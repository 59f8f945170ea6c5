-- The tokens of a scan are those of the tree.
use Rattle.std.proofs.Common.{◌≡◌, ℕ, ◌+◌, List, [], ◌∷◌, ◌++◌, length, refl, sym, ap, ◌∙◌, append_assoc, append-nil, Bool, true, false}
use Rattle.std.specs.Prelude.{◌==◌, map, Option, Some, None, if◌then◌else◌}
use Rattle.spi_lex.specs.declared.token.Kind.{Kind}
use Rattle.spi_tree.specs.declared.tree.SWord.{SWord}
use Rattle.spi_tree.specs.Trees as t
use Rattle.spi_tree.specs.Pieces.{Piece, opens, cell, closes, tokens_of, kinds_in, msg_pieces, msgs_pieces, atom_pieces, atoms_pieces, effect_pieces, ty_pieces, fields_pieces, last_pieces, named_pieces, binder_pieces, Place, in_seq, at_level, below, beside_place, level_of, proc_pieces, words_pieces, decl_pieces, decls_pieces, step_pieces, steps_pieces, written_pieces, deriv_pieces, derivs_pieces, version_pieces, opponent_pieces, schedule_pieces, derivation_pieces, file_pieces}
use Rattle.spi_scope.specs.Scope.{Names, Abbreviations}
use Rattle.spi_scope.specs.Meaning.{behind}
use Rattle.spi_scope.specs.Points.{Point, names_behind, types_behind, all_names, all_types}
use Rattle.spi_scope.specs.Scan.{token, point, Scan, ◌▸◌, kinds_in_scan, message_scan, messages_scan, whole_scan, part_scan, atom_scan, atoms_scan, effect_scan, type_scan, fields_scan, last_scan, whole_type_scan, named_scan, binder_scan, process_scan, frees_scan, decl_scan, decls_scan, step_scan, steps_scan, numbered_scan, numbered_atom_scan, numbered_atoms_scan, written_scan, deriv_scan, derivs_scan, version_scan, opponent_scan, schedule_scan, derivation_scan, file_scan}

kinds_append : (a b : Scan) → kinds_in_scan (a ++ b) ≡ kinds_in_scan a ++ kinds_in_scan b
kinds_append [] b = refl
kinds_append (token k ∷ a) b = ap (λ l. k ∷ l) (kinds_append a b)
kinds_append (point p ∷ a) b = kinds_append a b

-- the tokens from x up to z are those of the scan
pub record ReadsScan (x : List Piece) (s : Scan) (z : List Piece) : Type 0 where
  pub are : kinds_in x ≡ kinds_in_scan s ++ kinds_in z

done : {z : List Piece} → ReadsScan z [] z
done = record { are = refl }

tok : {k : Kind} {b : Bool} {x z : List Piece} {s : Scan} → ReadsScan x s z → ReadsScan (cell k b ∷ x) (token k ∷ s) z
tok {k} h = record { are = ap (λ l. k ∷ l) h.are }

pt : {p : Point} {x z : List Piece} {s : Scan} → ReadsScan x s z → ReadsScan x (point p ∷ s) z
pt h = record { are = h.are }

opening : {n : ℕ} {x z : List Piece} {s : Scan} → ReadsScan x s z → ReadsScan (opens n ∷ x) s z
opening h = record { are = h.are }

closing : {n : ℕ} {x z : List Piece} {s : Scan} → ReadsScan x s z → ReadsScan (closes n ∷ x) s z
closing h = record { are = h.are }

-- the end of a node is no token
shut : {n : ℕ} {x z : List Piece} {s : Scan} → ReadsScan x s (closes n ∷ z) → ReadsScan x s z
shut h = record { are = h.are }

infixr 5 ◌▹◌
◌▹◌ : {x y z : List Piece} {s t : Scan} → ReadsScan x s y → ReadsScan y t z → ReadsScan x (s ▸ t) z
◌▹◌ {z} {s} {t} g h =
    record { are = g.are ∙ ap (λ l. kinds_in_scan s ++ l) h.are ∙ sym (append_assoc (kinds_in_scan s) (kinds_in_scan t) (kinds_in z)) ∙ ap (λ l. l ++ kinds_in z) (sym (kinds_append s t)) }

word : {n m : ℕ} {k : Kind} {b : Bool} {x z : List Piece} {s : Scan} → ReadsScan x s z → ReadsScan (opens n ∷ cell k b ∷ closes m ∷ x) (token k ∷ s) z
word h = opening (tok (closing h))

first : {n : ℕ} {k : Kind} {b : Bool} {p : Point} {x z : List Piece} {s : Scan} → ReadsScan x s z → ReadsScan (opens n ∷ cell k b ∷ x) (token k ∷ point p ∷ s) z
first h = opening (tok (pt h))

mutual
  msg_reads : (n : ℕ) (xs : Names) (m : t.Msg) (r : List Piece) → ReadsScan (msg_pieces n m r) (message_scan xs m) r
  msg_reads n xs (t.name s w) r = record { are = refl }
  msg_reads n xs (t.unit s) r = record { are = refl }
  msg_reads n xs (t.tuple s a b ms) r = opening (tok (msg_reads (n + 1) xs a _ ▹ tok (msg_reads (n + 1) xs b _ ▹ msgs_reads (n + 1) xs ms _ ▹ tok (closing done))))
  msg_reads n xs (t.inl s a) r = opening (tok (shut (msg_reads (n + 1) xs a _)))
  msg_reads n xs (t.inr s a) r = opening (tok (shut (msg_reads (n + 1) xs a _)))
  msg_reads n xs (t.enc s a b) r = opening (tok (msg_reads (n + 1) xs a _ ▹ tok (shut (msg_reads (n + 1) xs b _))))
  msg_reads n xs (t.hash s a) r = opening (tok (tok (msg_reads (n + 1) xs a _ ▹ tok (closing done))))
  msg_reads n xs (t.num s i) r = record { are = refl }

  msgs_reads : (n : ℕ) (xs : Names) (ms : t.Msgs) (r : List Piece) → ReadsScan (msgs_pieces n ms r) (messages_scan xs ms) r
  msgs_reads n xs t.no_msgs r = done
  msgs_reads n xs (t.more_msgs m ms) r = tok (msg_reads n xs m _ ▹ msgs_reads n xs ms r)

whole_reads : (n : ℕ) (xs : Names) (m : t.Msg) (r : List Piece) → ReadsScan (msg_pieces n m r) (whole_scan xs m) r
whole_reads n xs m r = msg_reads n xs m r ▹ pt done

part_reads : (xs : Names) (m : t.Msg) (r : List Piece) → ReadsScan (msg_pieces 1 m r) (part_scan xs m) r
part_reads xs m r = whole_reads 1 xs m r ▹ pt done

atom_reads : (n : ℕ) (xs : Names) (e : t.Atom) (r : List Piece) → ReadsScan (atom_pieces n e r) (atom_scan xs e) r
atom_reads n xs (t.ends s m) r = opening (tok (shut (whole_reads (n + 1) xs m _)))
atom_reads n xs (t.checks s m) r = opening (tok (shut (whole_reads (n + 1) xs m _)))
atom_reads n xs (t.many s m) r = opening (tok (shut (whole_reads (n + 1) xs m _)))

atoms_reads : (n : ℕ) (xs : Names) (es : List t.Atom) (r : List Piece) → ReadsScan (atoms_pieces n es r) (atoms_scan xs es) r
atoms_reads n xs [] r = done
atoms_reads n xs (e ∷ es) r = tok (atom_reads n xs e _ ▹ atoms_reads n xs es r)

effect_reads : (n : ℕ) (xs : Names) (es : List t.Atom) (r : List Piece) → ReadsScan (effect_pieces n es r) (effect_scan xs es) r
effect_reads n xs [] r = record { are = refl }
effect_reads n xs (e ∷ es) r = tok (atom_reads n xs e _ ▹ atoms_reads n xs es _ ▹ tok done)

mutual
  ty_reads : (n : ℕ) (ts : Abbreviations) (xs : Names) (a : t.Ty) (r : List Piece) → ReadsScan (ty_pieces n a r) (type_scan ts xs a) r
  ty_reads n ts xs (t.un s) r = record { are = refl }
  ty_reads n ts xs (t.unit_ty s) r = record { are = refl }
  ty_reads n ts xs (t.tuple_ty s w a fs l) r =
      opening (tok (word (tok (ty_reads (n + 1) ts xs a _ ▹ tok (fields_reads (n + 1) ts (w.word ∷ xs) fs _ ▹ last_reads (n + 1) ts (behind (w.word ∷ xs) fs) l _ ▹ tok (closing done))))))
  ty_reads n ts xs (t.sum s a b) r = opening (tok (ty_reads (n + 1) ts xs a _ ▹ tok (ty_reads (n + 1) ts xs b _ ▹ tok (closing done))))
  ty_reads n ts xs (t.key s a) r = opening (tok (tok (ty_reads (n + 1) ts xs a _ ▹ tok (closing done))))
  ty_reads n ts xs (t.nonce s es) r = opening (tok (shut (effect_reads (n + 1) xs es _)))
  ty_reads n ts xs (t.abbr s w) r = record { are = refl }

  fields_reads : (n : ℕ) (ts : Abbreviations) (xs : Names) (fs : t.Fields) (r : List Piece) → ReadsScan (fields_pieces n fs r) (fields_scan ts xs fs) r
  fields_reads n ts xs t.no_fields r = done
  fields_reads n ts xs (t.more_fields w a fs) r = word (tok (ty_reads n ts xs a _ ▹ tok (fields_reads n ts (w.word ∷ xs) fs r)))

  last_reads : (n : ℕ) (ts : Abbreviations) (xs : Names) (l : t.Last) (r : List Piece) → ReadsScan (last_pieces n l r) (last_scan ts xs l) r
  last_reads n ts xs (t.bare a) r = ty_reads n ts xs a r
  last_reads n ts xs (t.named w a) r = word (tok (ty_reads n ts xs a r))

type_reads : (ts : Abbreviations) (xs : Names) (a : t.Ty) (r : List Piece) → ReadsScan (ty_pieces 1 a r) (whole_type_scan ts xs a) r
type_reads ts xs a r = (ty_reads 1 ts xs a r ▹ pt done) ▹ pt done

named_reads : (ts : Abbreviations) (xs : Names) (w : SWord) (a : t.Ty) (r : List Piece) → ReadsScan (named_pieces w a r) (named_scan ts xs w a) r
named_reads ts xs w a r = word (tok (type_reads ts xs a r))

binder_reads : (ts : Abbreviations) (xs : Names) (w : SWord) (a : t.Ty) (r : List Piece) → ReadsScan (binder_pieces w a r) (binder_scan ts xs w a) r
binder_reads ts xs w a r = tok (named_reads ts xs w a _ ▹ tok (tok done))

proc_reads : (at : Place) (ts : Abbreviations) (xs : Names) (p : t.Proc) (r : List Piece) → ReadsScan (proc_pieces at p r) (process_scan ts xs p) r
proc_reads at ts xs (t.par s p q) r = opening (proc_reads (in_seq (level_of at + 1)) ts xs p _ ▹ tok (pt (shut (proc_reads (at_level (level_of at + 1)) ts xs q _))))
proc_reads at ts xs (t.out s m n) r = first (part_reads xs m _ ▹ shut (part_reads xs n _))
proc_reads at ts xs (t.out_then s m n p) r = first (part_reads xs m _ ▹ part_reads xs n _ ▹ tok (pt (shut (proc_reads (below at) ts xs p _))))
proc_reads at ts xs (t.inp s m x a p) r = first (part_reads xs m _ ▹ binder_reads ts xs x a _ ▹ shut (proc_reads (below at) ts (x.word ∷ xs) p _))
proc_reads at ts xs (t.repeat s m x a p) r = first (tok (part_reads xs m _ ▹ binder_reads ts xs x a _ ▹ shut (proc_reads (below at) ts (x.word ∷ xs) p _)))
proc_reads at ts xs (t.split s m x a y c p) r =
    first (part_reads xs m _ ▹ tok (tok (named_reads ts xs x a _ ▹ tok (named_reads ts (x.word ∷ xs) y c _ ▹ tok (tok (shut (proc_reads (below at) ts (y.word ∷ x.word ∷ xs) p _)))))))
proc_reads at ts xs (t.match s m x a n y c p) r =
    first (part_reads xs m _ ▹ tok (tok (named_reads ts xs x a _ ▹ tok (part_reads xs n _ ▹ tok (named_reads ts (x.word ∷ xs) y c _ ▹ tok (tok (shut (proc_reads (below at) ts (y.word ∷ xs) p _))))))))
proc_reads at ts xs (t.case s m x a p y c q) r =
    first (part_reads xs m _ ▹ tok (tok (binder_reads ts xs x a _ ▹ proc_reads (below at) ts (x.word ∷ xs) p _ ▹ tok (tok (binder_reads ts xs y c _ ▹ shut (proc_reads (below at) ts (y.word ∷ xs) q _))))))
proc_reads at ts xs (t.decrypt s m x a n p) r =
    first (part_reads xs m _ ▹ tok (tok (named_reads ts xs x a _ ▹ tok (part_reads xs n _ ▹ tok (shut (proc_reads (below at) ts (x.word ∷ xs) p _))))))
proc_reads at ts xs (t.check s m n p) r = first (part_reads xs m _ ▹ tok (part_reads xs n _ ▹ tok (shut (proc_reads (below at) ts xs p _))))
proc_reads at ts xs (t.begin s m p) r = first (part_reads xs m _ ▹ tok (shut (proc_reads (below at) ts xs p _)))
proc_reads at ts xs (t.end s m p) r = first (part_reads xs m _ ▹ tok (shut (proc_reads (below at) ts xs p _)))
proc_reads at ts xs (t.end_many s m p) r = first (part_reads xs m _ ▹ tok (shut (proc_reads (below at) ts xs p _)))
proc_reads at ts xs (t.cast s m x a p) r = first (part_reads xs m _ ▹ tok (binder_reads ts xs x a _ ▹ shut (proc_reads (below at) ts (x.word ∷ xs) p _)))
proc_reads at ts xs (t.new s x a p) r = first (binder_reads ts xs x a _ ▹ shut (proc_reads (below at) ts (x.word ∷ xs) p _))
proc_reads at ts xs (t.stop s) r = record { are = refl }
proc_reads at ts xs (t.group s p q) r = opening (tok (proc_reads (below at) ts xs p _ ▹ tok (pt (proc_reads (beside_place at) ts xs q _ ▹ tok (closing done)))))

frees_read : (xs : Names) (ws : List SWord) (r : List Piece) → ReadsScan (words_pieces ws r) (frees_scan xs ws) r
frees_read xs [] r = done
frees_read xs (w ∷ ws) r = tok (opening (tok (pt (pt (closing (frees_read (w.word ∷ xs) ws r))))))

decl_reads : (ts : Abbreviations) (xs : Names) (d : t.Declared) (r : List Piece) → ReadsScan (decl_pieces d r) (decl_scan ts xs d) r
decl_reads ts xs (t.free s w ws) r = opening (tok (opening (tok (pt (pt (closing (frees_read (w.word ∷ xs) ws _ ▹ tok (closing done))))))))
decl_reads ts xs (t.abbreviated s w a) r = opening (tok (opening (tok (pt (closing (tok (type_reads ts xs a _ ▹ tok (closing done))))))))

decls_read : (ts : Abbreviations) (xs : Names) (ds : List t.Declared) (r : List Piece) → ReadsScan (decls_pieces ds r) (decls_scan ts xs ds) r
decls_read ts xs [] r = done
decls_read ts xs (d ∷ ds) r = decl_reads ts xs d _ ▹ decls_read (types_behind ts xs d) (names_behind xs d) ds r

step_reads : (i n : ℕ) (x : t.Step) (r : List Piece) → ReadsScan (step_pieces x r) (step_scan i n x) r
step_reads i n (t.act s k) r = record { are = refl }
step_reads i n (t.talk s k l) r = record { are = refl }

steps_read : (i n : ℕ) (xs : List t.Step) (r : List Piece) → ReadsScan (steps_pieces xs r) (steps_scan i n xs) r
steps_read i n [] r = done
steps_read i n (x ∷ xs) r = step_reads i n x _ ▹ steps_read (i + 1) n xs r

kinds_of_tokens : (ks : List Kind) → kinds_in_scan (map token ks) ≡ ks
kinds_of_tokens [] = refl
kinds_of_tokens (k ∷ ks) = ap (λ l. k ∷ l) (kinds_of_tokens ks)

-- the tokens of a message don't depend on its nesting
plain_reads : (n : ℕ) (m : t.Msg) (r : List Piece) → ReadsScan (msg_pieces n m r) (map token (kinds_in (msg_pieces 1 m []))) r
plain_reads n m r =
    let all = kinds_of_tokens (kinds_in (msg_pieces 1 m [])) ∙ (msg_reads 1 [] m []).are ∙ append-nil (kinds_in_scan (message_scan [] m)) in
    record { are = (msg_reads n [] m r).are ∙ ap (λ l. l ++ kinds_in r) (sym all) }

numbered_reads : (n : ℕ) (m : t.Msg) (r : List Piece) → ReadsScan (msg_pieces n m r) (numbered_scan m) r
numbered_reads n m r = plain_reads n m r ▹ pt done

numbered_atom_reads : (n : ℕ) (e : t.Atom) (r : List Piece) → ReadsScan (atom_pieces n e r) (numbered_atom_scan e) r
numbered_atom_reads n (t.ends s m) r = opening (tok (shut (numbered_reads (n + 1) m _)))
numbered_atom_reads n (t.checks s m) r = opening (tok (shut (numbered_reads (n + 1) m _)))
numbered_atom_reads n (t.many s m) r = opening (tok (shut (numbered_reads (n + 1) m _)))

numbered_atoms_read : (n : ℕ) (es : List t.Atom) (r : List Piece) → ReadsScan (atoms_pieces n es r) (numbered_atoms_scan es) r
numbered_atoms_read n [] r = done
numbered_atoms_read n (e ∷ es) r = tok (numbered_atom_reads n e _ ▹ numbered_atoms_read n es r)

written_reads : (es : Option (List t.Atom)) (r : List Piece) → ReadsScan (written_pieces es r) (written_scan es) r
written_reads None r = done
written_reads (Some []) r = record { are = refl }
written_reads (Some (e ∷ es)) r = tok (numbered_atom_reads 0 e _ ▹ numbered_atoms_read 0 es _ ▹ tok done)

mutual
  deriv_reads : (n : ℕ) (d : t.Deriv) (r : List Piece) → ReadsScan (deriv_pieces n d r) (deriv_scan d) r
  deriv_reads n (t.rule s w es ds) r = opening (word (written_reads es _ ▹ shut (derivs_read (n + 1) ds _)))

  derivs_read : (n : ℕ) (ds : t.Derivs) (r : List Piece) → ReadsScan (derivs_pieces n ds r) (derivs_scan ds) r
  derivs_read n t.no_derivs r = done
  derivs_read n (t.more_derivs d ds) r = deriv_reads n d _ ▹ derivs_read n ds r

version_reads : (v : ℕ) (r : List Piece) → ReadsScan (version_pieces v r) (version_scan v) r
version_reads v r = by (v == 2)
  where
    by : (b : Bool) → ReadsScan (if b then version_pieces 2 r else r) (if b then version_scan 2 else []) r
    by true = record { are = refl }
    by false = done

opponent_reads : (ts : Abbreviations) (xs : Names) (o : Option t.Proc) (r : List Piece) → ReadsScan (opponent_pieces o r) (opponent_scan ts xs o) r
opponent_reads ts xs None r = done
opponent_reads ts xs (Some p) r = tok (proc_reads (at_level 0) ts xs p r)

schedule_reads : (o : Option (List t.Step)) (r : List Piece) → ReadsScan (schedule_pieces o r) (schedule_scan o) r
schedule_reads None r = done
schedule_reads (Some xs) r = tok (steps_read 1 (length xs) xs r)

derivation_reads : (o : Option t.Deriv) (r : List Piece) → ReadsScan (derivation_pieces o r) (derivation_scan o) r
derivation_reads None r = done
derivation_reads (Some d) r = tok (deriv_reads 1 d r)

file_reads : (f : t.File) → ReadsScan (file_pieces f []) (file_scan f) []
file_reads f =
    let ts = all_types [] [] f.decls in
    let xs = all_names [] f.decls in
    opening
    (version_reads f.version _ ▹ decls_read [] [] f.decls _
    ▹ tok (proc_reads (at_level 0) ts xs f.process _ ▹ opponent_reads ts xs f.opponent _ ▹ schedule_reads f.schedule _ ▹ shut (derivation_reads f.derivation _)))

pub tokens_scanned : (f : t.File) → kinds_in_scan (file_scan f) ≡ tokens_of f
tokens_scanned f = sym ((file_reads f).are ∙ append-nil (kinds_in_scan (file_scan f)))
