-- Where pieces stand among the tokens of a text: from the token of one number up to that of another.
use Rattle.std.proofs.Common.{◌≡◌, ℕ, zero, suc, ◌+◌, ◌≤◌, ◌<◌, false, List, [], ◌∷◌, ◌++◌, length, drop, slice_get, Some, refl, sym, ap, subst, ◌∙◌, arith, length-drop}
use Rattle.std.proofs.lemmas.List.{length-append}
use Rattle.spi_lex.specs.declared.token.Kind.{Kind}
use Rattle.spi_lex.specs.declared.token.Token.{Token}
use Rattle.spi_lex.specs.Lexing.{kinds_of}
use Rattle.spi_tree.specs.Trees as t
use Rattle.spi_tree.specs.Pieces.{Piece, opens, cell, closes, cells, kinds_in, in_seq, at_level, msg_pieces, ty_pieces, decl_pieces, proc_pieces}
use Rattle.spi_parse.specs.Exact.{Spells}
use Rattle.spi_grammar.specs.Exactly.{IsWithinLimits}
use Rattle.spi_heading.specs.Repeated.{IsSolid}
use Rattle.spi_heading.specs.Spans.{start_of_token, end_before, first_from, first_to}

-- the pieces are those of the tokens from number i up to number j, and no node is above a limit
abbrev pub AreTokensOf : List Token → ℕ → List Piece → ℕ → Type 0
AreTokensOf ts i [] j = i ≡ j
AreTokensOf ts i (opens from ∷ ps) j = (i < length ts) × (start_of_token ts i ≡ from) × AreTokensOf ts i ps j
AreTokensOf ts i (cell k deep ∷ ps) j = (t : Token) × (more : List Token) × (drop i ts ≡ t ∷ more) × (t.kind ≡ k) × (deep ≡ false) × AreTokensOf ts (suc i) ps j
AreTokensOf ts i (closes to ∷ ps) j = (end_before ts i ≡ to) × AreTokensOf ts i ps j

-- ---- the tokens from a number on

drop_nil : {X : Type 0} (n : ℕ) → drop {A = X} n [] ≡ []
drop_nil zero = refl
drop_nil (suc n) = refl

pub drop_more : {X : Type 0} (n m : ℕ) (l : List X) → drop (n + m) l ≡ drop m (drop n l)
drop_more {X = X} zero m l = let e : zero + m ≡ m = omega arith in ap (λ (i : ℕ). drop i l) e
drop_more {X = X} (suc n) m [] = drop_nil (suc n + m) ∙ sym (drop_nil m)
drop_more {X = X} (suc n) m (x ∷ l) = let e : suc n + m ≡ suc (n + m) = omega arith in ap (λ (i : ℕ). drop i (x ∷ l)) e ∙ drop_more n m l

drop_front : {X : Type 0} (a b : List X) → drop (length a) (a ++ b) ≡ b
drop_front [] b = refl
drop_front (x ∷ a) b = drop_front a b

pub behind_one : (ts : List Token) (i : ℕ) (t : Token) (more : List Token) → drop i ts ≡ t ∷ more → drop (suc i) ts ≡ more
behind_one ts i t more e = let s : suc i ≡ i + 1 = omega arith in ap (λ (n : ℕ). drop n ts) s ∙ drop_more i 1 ts ∙ ap (λ (l : List Token). drop 1 l) e

pub behind_part : (ts : List Token) (i n : ℕ) (pre rest : List Token) → drop i ts ≡ pre ++ rest → length pre ≡ n → drop (i + n) ts ≡ rest
behind_part ts i n pre rest e len = drop_more i n ts ∙ ap (λ (l : List Token). drop n l) e ∙ ap (λ (k : ℕ). drop k (pre ++ rest)) (sym len) ∙ drop_front pre rest

-- a token of a number and what is behind it
pub found : (ts : List Token) (i : ℕ) (t : Token) → slice_get ts i ≡ Some t → (more : List Token) × (drop i ts ≡ t ∷ more)
found [] i t e = absurd (none i e)
  where
    none : (i : ℕ) → slice_get {X = Token} [] i ≡ Some t → ⊥
    none zero e = cc
    none (suc i) e = cc
found (x ∷ ts) zero t e = (ts, let j : x ≡ t = cc in ap (λ (y : Token). y ∷ ts) j)
found (x ∷ ts) (suc i) t e = found ts i t e

pub unfound : (ts : List Token) (i : ℕ) (t : Token) (more : List Token) → drop i ts ≡ t ∷ more → slice_get ts i ≡ Some t
unfound [] i t more e = absurd (none i e)
  where
    none : (i : ℕ) → drop {A = Token} i [] ≡ t ∷ more → ⊥
    none i e = let f : [] ≡ t ∷ more = sym (drop_nil i) ∙ e in cc
unfound (x ∷ ts) zero t more e = let j : x ≡ t = cc in ap (λ (y : Token). Some y) j
unfound (x ∷ ts) (suc i) t more e = unfound ts i t more e

pub within_one : (ts : List Token) (i : ℕ) (t : Token) (more : List Token) → drop i ts ≡ t ∷ more → i < length ts
within_one ts i t more e = let a = ap length e in let b = length-drop i ts in omega arith

pub within_part : (ts : List Token) (i n : ℕ) (pre rest : List Token) → i ≤ length ts → drop i ts ≡ pre ++ rest → length pre ≡ n → i + n ≤ length ts
within_part ts i n pre rest w e len = let a = ap length e ∙ length-append pre rest in let b = length-drop i ts in omega arith

pub one_there : (ts : List Token) (i : ℕ) → i < length ts → (t : Token) × (more : List Token) × (drop i ts ≡ t ∷ more)
one_there ts i w = go (drop i ts) refl
  where
    go : (l : List Token) → drop i ts ≡ l → (t : Token) × (more : List Token) × (drop i ts ≡ t ∷ more)
    go [] e = absurd (let a = ap length e in let b = length-drop i ts in omega arith)
    go (t ∷ more) e = (t, more, e)

same_place : (ts : List Token) (i j : ℕ) → i ≤ length ts → j ≤ length ts → drop i ts ≡ drop j ts → i ≡ j
same_place ts i j v w e = let a = ap length e in let b = length-drop i ts in let c = length-drop j ts in omega arith

-- ---- pieces behind others, and what they say of the tokens

pub stands_both : (ts : List Token) (ps qs : List Piece) (i j k : ℕ) → AreTokensOf ts i ps j → AreTokensOf ts j qs k → AreTokensOf ts i (ps ++ qs) k
stands_both ts [] qs i j k h g = subst (λ (n : ℕ). AreTokensOf ts n qs k) (sym h) g
stands_both ts (opens from ∷ ps) qs i j k h g = (h.0, h.1, stands_both ts ps qs i j k h.2 g)
stands_both ts (cell x deep ∷ ps) qs i j k h g = (h.0, h.1, h.2, h.3, h.4, stands_both ts ps qs (suc i) j k h.5 g)
stands_both ts (closes to ∷ ps) qs i j k h g = (h.0, stands_both ts ps qs i j k h.1 g)

pub stands_kinds : (ts : List Token) (ps : List Piece) (i j : ℕ) → AreTokensOf ts i ps j → kinds_of (drop i ts) ≡ kinds_in ps ++ kinds_of (drop j ts)
stands_kinds ts [] i j h = ap (λ (n : ℕ). kinds_of (drop n ts)) h
stands_kinds ts (opens from ∷ ps) i j h = stands_kinds ts ps i j h.2
stands_kinds ts (cell x deep ∷ ps) i j h =
    let front : kinds_of (drop i ts) ≡ h.0.kind ∷ kinds_of h.1 = ap kinds_of h.2 in
    let rest : kinds_of h.1 ≡ kinds_in ps ++ kinds_of (drop j ts) = ap kinds_of (sym (behind_one ts i h.0 h.1 h.2)) ∙ stands_kinds ts ps (suc i) j h.5 in
    front ∙ ap (λ (k : Kind). k ∷ kinds_of h.1) h.3 ∙ ap (λ (l : List Kind). x ∷ l) rest
stands_kinds ts (closes to ∷ ps) i j h = stands_kinds ts ps i j h.1

pub stands_clean : (ts : List Token) (ps : List Piece) (i j : ℕ) → AreTokensOf ts i ps j → IsWithinLimits (cells ps)
stands_clean ts [] i j h = tt
stands_clean ts (opens from ∷ ps) i j h = stands_clean ts ps i j h.2
stands_clean ts (cell x deep ∷ ps) i j h = (h.4, stands_clean ts ps (suc i) j h.5)
stands_clean ts (closes to ∷ ps) i j h = stands_clean ts ps i j h.1

pub stands_length : (ts : List Token) (ps : List Piece) (i j : ℕ) → AreTokensOf ts i ps j → j ≡ i + length (kinds_in ps)
stands_length ts [] i j h = omega (arith, h)
stands_length ts (opens from ∷ ps) i j h = stands_length ts ps i j h.2
stands_length ts (cell x deep ∷ ps) i j h = let e = stands_length ts ps (suc i) j h.5 in omega arith
stands_length ts (closes to ∷ ps) i j h = stands_length ts ps i j h.1

pub stands_within : (ts : List Token) (ps : List Piece) (i j : ℕ) → i ≤ length ts → AreTokensOf ts i ps j → j ≤ length ts
stands_within ts [] i j w h = omega (arith, h)
stands_within ts (opens from ∷ ps) i j w h = stands_within ts ps i j w h.2
stands_within ts (cell x deep ∷ ps) i j w h = let l = within_one ts i h.0 h.1 h.2 in stands_within ts ps (suc i) j (omega arith) h.5
stands_within ts (closes to ∷ ps) i j w h = stands_within ts ps i j w h.1

-- ---- to and from the public words

pub spelled : (ts : List Token) (ps : List Piece) (i j : ℕ) → AreTokensOf ts i ps j → Spells (drop j ts) (end_before ts i) ps (drop i ts)
spelled ts [] i j h = ap (λ (n : ℕ). drop n ts) h
spelled ts (opens from ∷ ps) i j h =
    let f = one_there ts i h.0 in
    subst (λ (l : List Token). Spells (drop j ts) (end_before ts i) (opens from ∷ ps) l) (sym f.2)
    (ap first_from (sym f.2) ∙ h.1, subst (λ (l : List Token). Spells (drop j ts) (end_before ts i) ps l) f.2 (spelled ts ps i j h.2))
spelled ts (cell x deep ∷ ps) i j h =
    subst (λ (l : List Token). Spells (drop j ts) (end_before ts i) (cell x deep ∷ ps) l) (sym h.2)
    (h.3, h.4, subst (λ (e : ℕ). Spells (drop j ts) e ps h.1) (ap first_to h.2) (subst (λ (l : List Token). Spells (drop j ts) (end_before ts (suc i)) ps l) (behind_one ts i h.0 h.1 h.2) (spelled ts ps (suc i) j h.5)))
spelled ts (closes to ∷ ps) i j h = (h.0, spelled ts ps i j h.1)

stands_on : (ts : List Token) (ps : List Piece) (i j : ℕ) (l : List Token) (e : ℕ) → i ≤ length ts → j ≤ length ts → drop i ts ≡ l → end_before ts i ≡ e → Spells (drop j ts) e ps l → AreTokensOf ts i ps j
stands_on ts [] i j l e v w at before h = same_place ts i j v w (at ∙ h)
stands_on ts (opens from ∷ ps) i j [] e v w at before h = absurd h
stands_on ts (opens from ∷ ps) i j (t ∷ l) e v w at before h = (within_one ts i t l at, ap first_from at ∙ h.0, stands_on ts ps i j (t ∷ l) e v w at before h.1)
stands_on ts (cell x deep ∷ ps) i j [] e v w at before h = absurd h
stands_on ts (cell x deep ∷ ps) i j (t ∷ l) e v w at before h =
    let lt = within_one ts i t l at in
    (t, l, at, h.0, h.1, stands_on ts ps (suc i) j l t.span.to (omega arith) w (behind_one ts i t l at) (ap first_to at) h.2)
stands_on ts (closes to ∷ ps) i j l e v w at before h = (before ∙ h.0, stands_on ts ps i j l e v w at before h.1)

pub standing : (ts : List Token) (ps : List Piece) (i j : ℕ) → i ≤ length ts → j ≤ length ts → Spells (drop j ts) (end_before ts i) ps (drop i ts) → AreTokensOf ts i ps j
standing ts ps i j v w h = stands_on ts ps i j (drop i ts) (end_before ts i) v w refl refl h

-- ---- where the token before a part ends does not matter to it

pub solid : (ps : List Piece) → IsSolid ps → (left : List Token) (e e' : ℕ) (ts : List Token) → Spells left e ps ts → Spells left e' ps ts
solid [] s left e e' ts h = absurd s
solid (opens from ∷ ps) s left e e' [] h = h
solid (opens from ∷ ps) s left e e' (t ∷ ts) h = (h.0, solid ps s left e e' (t ∷ ts) h.1)
solid (cell k deep ∷ ps) s left e e' [] h = h
solid (cell k deep ∷ ps) s left e e' (t ∷ ts) h = h
solid (closes to ∷ ps) s left e e' ts h = absurd s

pub msg_solid : (n : ℕ) (m : t.Msg) (r : List Piece) → IsSolid (msg_pieces n m r)
msg_solid n (t.name s w) r = tt
msg_solid n (t.unit s) r = tt
msg_solid n (t.tuple s a b ms) r = tt
msg_solid n (t.inl s a) r = tt
msg_solid n (t.inr s a) r = tt
msg_solid n (t.enc s a b) r = tt
msg_solid n (t.hash s a) r = tt
msg_solid n (t.num s i) r = tt

pub ty_solid : (n : ℕ) (a : t.Ty) (r : List Piece) → IsSolid (ty_pieces n a r)
ty_solid n (t.un s) r = tt
ty_solid n (t.unit_ty s) r = tt
ty_solid n (t.tuple_ty s w a fs l) r = tt
ty_solid n (t.sum s a b) r = tt
ty_solid n (t.key s a) r = tt
ty_solid n (t.nonce s es) r = tt
ty_solid n (t.abbr s w) r = tt

pub decl_solid : (d : t.Declared) (r : List Piece) → IsSolid (decl_pieces d r)
decl_solid (t.free s w ws) r = tt
decl_solid (t.abbreviated s w a) r = tt

pub proc_solid : (p : t.Proc) (m : ℕ) (r : List Piece) → IsSolid (proc_pieces (at_level m) p r) × IsSolid (proc_pieces (in_seq m) p r)
proc_solid (t.par s p q) m r = ((proc_solid p (m + 1) _).1, (proc_solid p (m + 1) _).1)
proc_solid (t.out s a b) m r = (tt, tt)
proc_solid (t.out_then s a b p) m r = (tt, tt)
proc_solid (t.inp s a w b p) m r = (tt, tt)
proc_solid (t.repeat s a w b p) m r = (tt, tt)
proc_solid (t.split s a w b x c p) m r = (tt, tt)
proc_solid (t.match s a w b n x c p) m r = (tt, tt)
proc_solid (t.case s a w b p x c q) m r = (tt, tt)
proc_solid (t.decrypt s a w b n p) m r = (tt, tt)
proc_solid (t.check s a n p) m r = (tt, tt)
proc_solid (t.begin s a p) m r = (tt, tt)
proc_solid (t.end s a p) m r = (tt, tt)
proc_solid (t.end_many s a p) m r = (tt, tt)
proc_solid (t.cast s a w b p) m r = (tt, tt)
proc_solid (t.new s w b p) m r = (tt, tt)
proc_solid (t.stop s) m r = (tt, tt)
proc_solid (t.group s p q) m r = (tt, tt)
