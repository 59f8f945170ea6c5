-- The answers of the calls, from what is read.
use Rattle.std.proofs.Common.{◌≡◌, ℕ, zero, suc, ◌+◌, ◌-◌, ◌≤◌, Bool, false, List, [], ◌∷◌, ◌++◌, length, map, drop, Ok, Err, refl, sym, ap, subst, ◌∙◌, arith, append-nil, length-append, length-drop}
use Rattle.std.proofs.lemmas.List.{length-map}
use Rattle.spi_lex.specs.declared.token.Kind.{Kind}
use Rattle.spi_lex.specs.declared.token.Token.{Token}
use Rattle.spi_lex.specs.Lexing.{kinds_of, is_version_2}
use Rattle.spi_tree.specs.Trees as t
use Rattle.spi_tree.specs.Pieces.{Piece, kinds_in, at_level}
use Rattle.spi_tree.specs.Formed.{AreWordsFit, IsMsg, IsTy, IsDeclared, IsProc}
use Rattle.spi_parse.specs.declared.fault.Fault.{Fault}
use Rattle.spi_parse.specs.declared.fault.Fault.TheVariants.{Syntax, TooDeep}
use Rattle.spi_parse.specs.declared.fault.Stop.{Stop}
use Rattle.spi_parse.specs.declared.fault.Stop.TheVariants as stops
use Rattle.spi_parse.specs.Tokens.{Tok, State, tok}
use Rattle.spi_parse.specs.Table.{Sym, Tree, msg, ty, decl, sproc, file}
use Rattle.spi_parse.specs.Reading.{Fails, limited, told, read}
use Rattle.spi_parse.specs.Formed.{IsFile, whole_file, whole_decl, whole_type, whole_message, whole_process, IsWholeDecl, IsWholeType, IsWholeMessage, IsWholeProcess}
use Rattle.spi_parse.specs.Bare.{bare_msg, bare_ty, bare_decl, bare_proc, bare_file}
use Rattle.spi_parse.specs.Exact.{Spells, ItemEnds, IsSyntaxAt, IsDeepAt, IsPartAt, IsNoPart, Reads, Parses}
use Rattle.spi_parse.specs.Faults.{fault_of_stop}
use Rattle.spi_parse.proofs.Readers.{at}
use Rattle.spi_parse.proofs.Spell.{spell, Formed}
use Rattle.spi_parse.proofs.Sound.{untok, Lies}
use Rattle.spi_parse.proofs.Viable.{AreSpare}
use Rattle.spi_parse.proofs.Local.{left_of}
use Rattle.spi_parse.proofs.Complete.{told_fits, out_ends_nil, par_ends_nil, msg_c, ty_c, decl_c, proc_c, file_c}
use Rattle.spi_parse.proofs.ExactLaws.{kinds_read, firsts, tokens_told, exact_ok, exact_syntax, exact_deep, no_part, first_ok, fault_within}
use Rattle.spi_parse.proofs.Words.{made_fit, file_ruled, file_made}

-- ---- tokens with flags and without

pub kinds_tok : (ts : List Token) → kinds_read (map tok ts) ≡ kinds_of ts
kinds_tok [] = refl
kinds_tok (t ∷ ts) = ap (λ (l : List Kind). t.kind ∷ l) (kinds_tok ts)

pub untok_tok : (ts : List Token) → map untok (map tok ts) ≡ ts
untok_tok [] = refl
untok_tok (t ∷ ts) = ap (λ (l : List Token). t ∷ l) (untok_tok ts)

same_toks : (a b : List Token) → map tok a ≡ map tok b → a ≡ b
same_toks a b e = sym (untok_tok a) ∙ ap (map untok) e ∙ untok_tok b

pub front_of : (l : List Token) (pre : List Tok) (r : List Token) → map tok l ≡ pre ++ map tok r → (p : List Token) × (l ≡ p ++ r) × (map tok p ≡ pre)
front_of l [] r e = ([], same_toks l r e, refl)
front_of [] (x ∷ pre) r e = absurd cc
front_of (t ∷ l) (x ∷ pre) r e =
    let h : tok t ≡ x = cc in
    let tail : map tok l ≡ pre ++ map tok r = cc in
    let k = front_of l pre r tail in
    (t ∷ k.0, ap (λ (z : List Token). t ∷ z) k.1, cc (h, k.2))

spells_of : (left : List Token) (e : ℕ) (ps : List Piece) (ts : List Token) → Lies (map tok left) e ps (map tok ts) → Spells left e ps ts
spells_of left e ps ts h =
    subst (λ (l : List Token). Spells left e ps l) (untok_tok ts)
    (subst (λ (l : List Token). Spells l e ps (map untok (map tok ts))) (untok_tok left) h)

pub kinds_count : (ts : List Token) → length (kinds_of ts) ≡ length ts
kinds_count ts = length-map ts (λ (t : Token). t.kind)

-- ---- any kind of part

module _ (a : Sym) (bare : Tree a → Tree a) (P : Tree a → Type 0) (formed : (x : Tree a) → P x → Formed a x)
    (complete : (x : Tree a) → Formed a x → read told a (at 0 (tokens_told (spell a x []))) ≡ Ok (bare x, at 0 []))
    (Q : List Kind → Type 0)
    (make : (ks : List Kind) → Q ks → (x : Tree a) → Formed a x → (pre rest : List Kind) (c : List (Kind × Bool)) → ks ≡ pre ++ rest → kinds_in (spell a x []) ≡ pre ++ firsts c → AreSpare c → P x) where
  abbrev shown : Tree a → List Piece
  shown x = spell a x []

  module _ (ts : List Token) (fit : Q (kinds_of ts)) where
    making : (x : Tree a) → Formed a x → (pre rest : List Kind) (c : List (Kind × Bool)) → kinds_read (map tok ts) ≡ pre ++ rest → kinds_in (spell a x []) ≡ pre ++ firsts c → AreSpare c → P x
    making x h pre rest c split = make (kinds_of ts) fit x h pre rest c (sym (kinds_tok ts) ∙ split)

    count : length (map tok ts) ≡ length ts
    count = length-map ts tok

    part_ok : (x : Tree a) (e : ℕ) (rest : List Token) → read limited a (at 0 (map tok ts)) ≡ Ok (x, at e (map tok rest)) → (n : ℕ) × (length ts ≡ n + length rest) × IsPartAt shown P x ts n
    part_ok x e rest is =
        let r = exact_ok a bare P formed complete (map tok ts) making x (at e (map tok rest)) is in
        let f = front_of ts r.pre rest r.split in
        let pre_kinds : kinds_read r.pre ≡ kinds_of f.0 = ap kinds_read (sym f.2) ∙ kinds_tok f.0 in (
          length f.0,
          ap length f.1 ∙ length-append f.0 rest,
          record {
            pre = f.0;
            rest = rest;
            split = f.1;
            place = refl;
            part = r.part;
            tokens = r.tokens ∙ pre_kinds;
            spells = spells_of rest 0 (shown x) ts r.lies;
            ends = subst (λ (l : List Kind). ItemEnds shown P (kinds_of f.0) l) (kinds_tok rest) (subst (λ (l : List Kind). ItemEnds shown P l (kinds_read (map tok rest))) pre_kinds r.ends);
          },
        )

    part_spells : (x : Tree a) (e : ℕ) (rest : List Token) → read limited a (at 0 (map tok ts)) ≡ Ok (x, at e (map tok rest)) → P x × Spells rest 0 (shown x) ts
    part_spells x e rest is =
        let r = exact_ok a bare P formed complete (map tok ts) making x (at e (map tok rest)) is in
        (r.part, spells_of rest 0 (shown x) ts r.lies)

    syntax_at : (n : ℕ) → read limited a (at 0 (map tok ts)) ≡ Err (Syntax n) → IsSyntaxAt shown P (kinds_of ts) (length ts - n)
    syntax_at n is = subst (λ (i : ℕ). IsSyntaxAt shown P (kinds_of ts) (i - n)) count (subst (λ (l : List Kind). IsSyntaxAt shown P l (length (map tok ts) - n)) (kinds_tok ts) (exact_syntax a bare P formed complete (map tok ts) making n is))

    deep_at : (n : ℕ) → read limited a (at 0 (map tok ts)) ≡ Err (TooDeep n) → IsDeepAt shown P (kinds_of ts) (length ts - n)
    deep_at n is = subst (λ (i : ℕ). IsDeepAt shown P (kinds_of ts) (i - n)) count (subst (λ (l : List Kind). IsDeepAt shown P l (length (map tok ts) - n)) (kinds_tok ts) (exact_deep a bare P formed complete (map tok ts) making n is))

    none_at : (d : Fault) → read limited a (at 0 (map tok ts)) ≡ Err d → IsNoPart shown P (kinds_of ts)
    none_at d is = subst (λ (l : List Kind). IsNoPart shown P l) (kinds_tok ts) (no_part a bare P formed complete (map tok ts) making d is)

    left_at : (d : Fault) → read limited a (at 0 (map tok ts)) ≡ Err d → left_of d ≤ length ts
    left_at d is = let k = fault_within a (map tok ts) d is in let c = count in omega arith

    -- where a part is read and tokens are left, none goes on with them
    more_left : (x : Tree a) (e : ℕ) (t : Token) (rest : List Token) → read limited a (at 0 (map tok ts)) ≡ Ok (x, at e (map tok (t ∷ rest))) → IsSyntaxAt shown P (kinds_of ts) (length ts - suc (length rest))
    unfolding part_ok
    more_left x e t rest is =
        let p = part_ok x e (t ∷ rest) is in
        let q = p.2 in
        let kinds_split : kinds_of ts ≡ kinds_of q.pre ++ kinds_of q.rest = ap kinds_of q.split ∙ map_append q.pre q.rest in
        let len = kinds_count q.pre in
        let place = q.place in
        let total = p.1 in
        record {
          pre = kinds_of q.pre;
          rest = t.kind ∷ kinds_of rest;
          split = kinds_split;
          place = omega arith;
          begins = (x, q.part, [], q.tokens ∙ sym (append-nil (kinds_of q.pre)));
          stops = q.ends;
          first = subst (λ (l : List Kind). Rattle.spi_parse.specs.Exact.NoDeepBefore shown P l (length ts - suc (length rest))) (kinds_tok ts) (first_ok a bare P formed complete (map tok ts) making x (at e (map tok (t ∷ rest))) (length ts - suc (length rest)) is);
        }
      where
        map_append : (b c : List Token) → kinds_of (b ++ c) ≡ kinds_of b ++ kinds_of c
        map_append [] c = refl
        map_append (y ∷ b) c = ap (λ (l : List Kind). y.kind ∷ l) (map_append b c)

  module _ {V : Type 0} (view : V → Tree a) (tokens : List Token) (from : ℕ) (within : from ≤ length tokens) (fit : Q (kinds_of (drop from tokens))) where
    reads_ok : (v : V) (e : ℕ) (rest : List Token) → read limited a (at 0 (map tok (drop from tokens))) ≡ Ok (view v, at e (map tok rest)) → Reads view shown P (Ok (v, length tokens - length rest)) tokens from
    reads_ok v e rest is =
        let p = part_ok (drop from tokens) fit (view v) e rest is in
        let len = length-drop from tokens in
        let total = p.1 in
        (p.0, omega arith, p.2)

    reads_err : (stop : Stop) → Fails stop (read limited a (at 0 (map tok (drop from tokens)))) → Reads view shown P (Err (fault_of_stop (length tokens) stop)) tokens from
    reads_err stops.NoMemory is = tt
    reads_err (stops.Fault (Syntax n)) is =
        let len = length-drop from tokens in
        let low = left_at (drop from tokens) fit (Syntax n) is in
        (length (drop from tokens) - n, omega arith, syntax_at (drop from tokens) fit n is, none_at (drop from tokens) fit (Syntax n) is)
    reads_err (stops.Fault (TooDeep n)) is =
        let len = length-drop from tokens in
        let low = left_at (drop from tokens) fit (TooDeep n) is in
        (length (drop from tokens) - n, omega arith, deep_at (drop from tokens) fit n is, none_at (drop from tokens) fit (TooDeep n) is)

-- ---- the five kinds

kinds_drop : (from : ℕ) (ts : List Token) → kinds_of (drop from ts) ≡ drop from (kinds_of ts)
kinds_drop zero ts = refl
kinds_drop (suc n) [] = refl
kinds_drop (suc n) (t ∷ ts) = kinds_drop n ts

fits_dropped : (v : Bool) (from : ℕ) (ks : List Kind) → AreWordsFit v ks → AreWordsFit v (drop from ks)
fits_dropped v zero ks h = h
fits_dropped v (suc n) [] h = tt
fits_dropped v (suc n) (k ∷ ks) h = fits_dropped v n ks h.1

pub fits_from : (v : Bool) (from : ℕ) (ts : List Token) → AreWordsFit v (kinds_of ts) → AreWordsFit v (kinds_of (drop from ts))
fits_from v from ts h = subst (AreWordsFit v) (sym (kinds_drop from ts)) (fits_dropped v from (kinds_of ts) h)

module _ (v : Bool) where
  message_made : (ks : List Kind) → AreWordsFit v ks → (x : t.Msg) → IsMsg v false x → (pre rest : List Kind) (c : List (Kind × Bool)) → ks ≡ pre ++ rest → kinds_in (whole_message x) ≡ pre ++ firsts c → AreSpare c → IsWholeMessage v x
  message_made ks fit x h pre rest c split is spare = (h, made_fit v ks pre rest c (kinds_in (whole_message x)) fit split is spare)

  type_made : (ks : List Kind) → AreWordsFit v ks → (x : t.Ty) → IsTy v x → (pre rest : List Kind) (c : List (Kind × Bool)) → ks ≡ pre ++ rest → kinds_in (whole_type x) ≡ pre ++ firsts c → AreSpare c → IsWholeType v x
  type_made ks fit x h pre rest c split is spare = (h, made_fit v ks pre rest c (kinds_in (whole_type x)) fit split is spare)

  decl_made : (ks : List Kind) → AreWordsFit v ks → (x : t.Declared) → IsDeclared v x → (pre rest : List Kind) (c : List (Kind × Bool)) → ks ≡ pre ++ rest → kinds_in (whole_decl x) ≡ pre ++ firsts c → AreSpare c → IsWholeDecl v x
  decl_made ks fit x h pre rest c split is spare = (h, made_fit v ks pre rest c (kinds_in (whole_decl x)) fit split is spare)

  process_made : (ks : List Kind) → AreWordsFit v ks → (x : t.Proc) → IsProc v (at_level 0) x → (pre rest : List Kind) (c : List (Kind × Bool)) → ks ≡ pre ++ rest → kinds_in (whole_process x) ≡ pre ++ firsts c → AreSpare c → IsWholeProcess v x
  process_made ks fit x h pre rest c split is spare = (h, made_fit v ks pre rest c (kinds_in (whole_process x)) fit split is spare)

  module _ (tokens : List Token) (from : ℕ) (within : from ≤ length tokens) (fit : AreWordsFit v (kinds_of tokens)) where
    abbrev here : State
    here = at 0 (map tok (drop from tokens))

    pub message_ok : {V : Type 0} (view : V → t.Msg) (x : V) (e : ℕ) (rest : List Token) → read limited (msg v false 1) here ≡ Ok (view x, at e (map tok rest)) → Reads view whole_message (IsWholeMessage v) (Ok (x, length tokens - length rest)) tokens from
    message_ok view x e rest is = reads_ok (msg v false 1) bare_msg (IsWholeMessage v) (λ y h. h.0) (λ y h. msg_c told (λ d. d) told_fits y v false 1 [] h) (AreWordsFit v) message_made view tokens from within (fits_from v from tokens fit) x e rest is

    pub message_err : {V : Type 0} (view : V → t.Msg) (stop : Stop) → Fails stop (read limited (msg v false 1) here) → Reads view whole_message (IsWholeMessage v) (Err (fault_of_stop (length tokens) stop)) tokens from
    message_err view stop is = reads_err (msg v false 1) bare_msg (IsWholeMessage v) (λ y h. h.0) (λ y h. msg_c told (λ d. d) told_fits y v false 1 [] h) (AreWordsFit v) message_made view tokens from within (fits_from v from tokens fit) stop is

    pub type_ok : {V : Type 0} (view : V → t.Ty) (x : V) (e : ℕ) (rest : List Token) → read limited (ty v 1) here ≡ Ok (view x, at e (map tok rest)) → Reads view whole_type (IsWholeType v) (Ok (x, length tokens - length rest)) tokens from
    type_ok view x e rest is = reads_ok (ty v 1) bare_ty (IsWholeType v) (λ y h. h.0) (λ y h. ty_c told (λ d. d) told_fits y v 1 [] h) (AreWordsFit v) type_made view tokens from within (fits_from v from tokens fit) x e rest is

    pub type_err : {V : Type 0} (view : V → t.Ty) (stop : Stop) → Fails stop (read limited (ty v 1) here) → Reads view whole_type (IsWholeType v) (Err (fault_of_stop (length tokens) stop)) tokens from
    type_err view stop is = reads_err (ty v 1) bare_ty (IsWholeType v) (λ y h. h.0) (λ y h. ty_c told (λ d. d) told_fits y v 1 [] h) (AreWordsFit v) type_made view tokens from within (fits_from v from tokens fit) stop is

    pub decl_ok : {V : Type 0} (view : V → t.Declared) (x : V) (e : ℕ) (rest : List Token) → read limited (decl v) here ≡ Ok (view x, at e (map tok rest)) → Reads view whole_decl (IsWholeDecl v) (Ok (x, length tokens - length rest)) tokens from
    decl_ok view x e rest is = reads_ok (decl v) bare_decl (IsWholeDecl v) (λ y h. h.0) (λ y h. decl_c told (λ d. d) told_fits y v [] h) (AreWordsFit v) decl_made view tokens from within (fits_from v from tokens fit) x e rest is

    pub decl_err : {V : Type 0} (view : V → t.Declared) (stop : Stop) → Fails stop (read limited (decl v) here) → Reads view whole_decl (IsWholeDecl v) (Err (fault_of_stop (length tokens) stop)) tokens from
    decl_err view stop is = reads_err (decl v) bare_decl (IsWholeDecl v) (λ y h. h.0) (λ y h. decl_c told (λ d. d) told_fits y v [] h) (AreWordsFit v) decl_made view tokens from within (fits_from v from tokens fit) stop is

    pub process_ok : {V : Type 0} (view : V → t.Proc) (x : V) (e : ℕ) (rest : List Token) → read limited (sproc v 0) here ≡ Ok (view x, at e (map tok rest)) → Reads view whole_process (IsWholeProcess v) (Ok (x, length tokens - length rest)) tokens from
    process_ok view x e rest is = reads_ok (sproc v 0) bare_proc (IsWholeProcess v) (λ y h. h.0) (λ y h. (proc_c told (λ d. d) told_fits y).1 v 0 [] h (out_ends_nil told (λ d. d) told_fits) (par_ends_nil told (λ d. d) told_fits)) (AreWordsFit v) process_made view tokens from within (fits_from v from tokens fit) x e rest is

    pub process_err : {V : Type 0} (view : V → t.Proc) (stop : Stop) → Fails stop (read limited (sproc v 0) here) → Reads view whole_process (IsWholeProcess v) (Err (fault_of_stop (length tokens) stop)) tokens from
    process_err view stop is = reads_err (sproc v 0) bare_proc (IsWholeProcess v) (λ y h. h.0) (λ y h. (proc_c told (λ d. d) told_fits y).1 v 0 [] h (out_ends_nil told (λ d. d) told_fits) (par_ends_nil told (λ d. d) told_fits)) (AreWordsFit v) process_made view tokens from within (fits_from v from tokens fit) stop is

abbrev FileFits : List Kind → Type 0
FileFits ks = AreWordsFit (is_version_2 ks) ks

file_complete : (x : t.File) → Formed file x → read told file (at 0 (tokens_told (spell file x []))) ≡ Ok (bare_file x, at 0 [])
file_complete x h = file_c told (λ d. d) told_fits x h

module _ {V : Type 0} (view : V → t.File) (tokens : List Token) (fit : AreWordsFit (is_version_2 (kinds_of tokens)) (kinds_of tokens)) where
  pub parses_ok : (x : V) (e : ℕ) → read limited file (at 0 (map tok tokens)) ≡ Ok (view x, at e (map tok [])) → Parses view (Ok x) tokens
  parses_ok x e is =
      let p = part_spells file bare_file IsFile file_ruled file_complete FileFits file_made tokens fit (view x) e [] is in
      (p.0, p.1)

  pub parses_rest : (x : V) (e : ℕ) (t : Token) (rest : List Token) → read limited file (at 0 (map tok tokens)) ≡ Ok (view x, at e (map tok (t ∷ rest))) → IsSyntaxAt whole_file IsFile (kinds_of tokens) (length tokens - suc (length rest))
  parses_rest x e t rest is = more_left file bare_file IsFile file_ruled file_complete FileFits file_made tokens fit (view x) e t rest is

  pub parses_err : (stop : Stop) → Fails stop (read limited file (at 0 (map tok tokens))) → Parses view (Err (fault_of_stop (length tokens) stop)) tokens
  parses_err stops.NoMemory is = tt
  parses_err (stops.Fault (Syntax n)) is = syntax_at file bare_file IsFile file_ruled file_complete FileFits file_made tokens fit n is
  parses_err (stops.Fault (TooDeep n)) is = deep_at file bare_file IsFile file_ruled file_complete FileFits file_made tokens fit n is
