-- Reading by the table is exact, for every symbol whose trees are read as they are spelled.
use Rattle.std.proofs.Common.{◌≡◌, ℕ, suc, ◌-◌, ◌<◌, ◌≤◌, Bool, true, List, [], ◌∷◌, ◌++◌, length, map, Ok, Err, refl, sym, ap, subst, ◌∙◌, ◌⊎◌, inl, inr, arith, append_assoc, append-nil}
use Rattle.std.proofs.lemmas.List.{length-append}
use Rattle.spi_lex.specs.declared.token.Kind.{Kind}
use Rattle.spi_tree.specs.Pieces.{Piece, opens, cell, closes, cells, kinds_in}
use Rattle.spi_parse.specs.declared.fault.Fault.{Fault}
use Rattle.spi_parse.specs.declared.fault.Fault.TheVariants.{Syntax, TooDeep}
use Rattle.spi_parse.specs.Tokens.{Tok, State}
use Rattle.spi_parse.specs.Table.{Sym, Tree}
use Rattle.spi_parse.specs.Reading.{Out, limited, told, read}
use Rattle.spi_parse.specs.Exact.{IsWithin, ItemBegins, NoItemGoesOn, ItemStops, ItemEnds, PiecesStartDeep, NoDeepBefore, IsSyntaxAt, IsDeepAt, IsNoPart}
use Rattle.spi_parse.proofs.Readers.{at}
use Rattle.spi_parse.proofs.Spell.{spell, Formed}
use Rattle.spi_parse.proofs.Sound.{plain_tokens, Lies, is_sound}
use Rattle.spi_parse.proofs.TableLaws.{table_ok}
use Rattle.spi_parse.proofs.LiveLaws.{table_live}
use Rattle.spi_parse.proofs.FlagLaws.{table_flags}
use Rattle.spi_parse.proofs.Viable.{AreSpare, is_viable}
use Rattle.spi_parse.proofs.Complete.{flat_pieces}
use Rattle.spi_parse.proofs.Local.{NoFlag, SharedTokens, CleanBefore, ReadsAlike, follows, beyond_shared, left_of, read_within_left}
use Rattle.spi_tree.specs.Trees.{nowhere}

-- ---- lists

abbrev pub kinds_read : List Tok → List Kind
kinds_read ts = map (λ (t : Tok). t.kind) ts

abbrev pub firsts : List (Kind × Bool) → List Kind
firsts cs = map (λ (c : Kind × Bool). c.0) cs

kinds_append : (a b : List Tok) → kinds_read (a ++ b) ≡ kinds_read a ++ kinds_read b
kinds_append [] b = refl
kinds_append (t ∷ a) b = ap (λ (l : List Kind). t.kind ∷ l) (kinds_append a b)

kinds_length : (a : List Tok) → length (kinds_read a) ≡ length a
kinds_length [] = refl
kinds_length (t ∷ a) = ap suc (kinds_length a)

firsts_plain : (a : List Tok) (c : List (Kind × Bool)) → firsts (plain_tokens a ++ c) ≡ kinds_read a ++ firsts c
firsts_plain [] c = refl
firsts_plain (t ∷ a) c = ap (λ (l : List Kind). t.kind ∷ l) (firsts_plain a c)

only_plain : (a : List Tok) → firsts (plain_tokens a) ≡ kinds_read a
only_plain [] = refl
only_plain (t ∷ a) = ap (λ (l : List Kind). t.kind ∷ l) (only_plain a)

pub kinds_in_cells : (ps : List Piece) → kinds_in ps ≡ firsts (cells ps)
kinds_in_cells [] = refl
kinds_in_cells (opens from ∷ ps) = kinds_in_cells ps
kinds_in_cells (cell k deep ∷ ps) = ap (λ (l : List Kind). k ∷ l) (kinds_in_cells ps)
kinds_in_cells (closes to ∷ ps) = kinds_in_cells ps

abbrev as_toks : List (Kind × Bool) → List Tok
as_toks [] = []
as_toks (c ∷ cs) = record { kind = c.0; span = nowhere; deep = c.1 } ∷ as_toks cs

abbrev pub tokens_told : List Piece → List Tok
tokens_told ps = flat_pieces (λ d. d) ps

flat_is : (ps : List Piece) → tokens_told ps ≡ as_toks (cells ps)
flat_is [] = refl
flat_is (opens from ∷ ps) = flat_is ps
flat_is (cell k deep ∷ ps) = ap (λ (l : List Tok). record { kind = k; span = nowhere; deep = deep } ∷ l) (flat_is ps)
flat_is (closes to ∷ ps) = flat_is ps

no_flag : (ps : List Piece) → IsWithin ps → NoFlag (tokens_told ps)
no_flag [] h = tt
no_flag (opens from ∷ ps) h = no_flag ps h
no_flag (cell k deep ∷ ps) h = (h.0, no_flag ps h.1)
no_flag (closes to ∷ ps) h = no_flag ps h

-- ---- shared beginnings

shared_at : (e : ℕ) (cs : List (Kind × Bool)) (k : Kind) (b : Bool) (c : List (Kind × Bool)) (ts : List Tok) (rest : List Kind) (m : ℕ) → kinds_read ts ≡ firsts cs ++ k ∷ rest → m ≡ suc (length rest) → SharedTokens e m ts (as_toks (cs ++ (k, b) ∷ c))
shared_at e [] k b c [] rest m q n = absurd cc
shared_at e [] k b c (t ∷ ts) rest m q n =
    let h : t.kind ≡ k = cc in
    let tail : kinds_read ts ≡ rest = cc in
    let len = kinds_length ts in
    let same = ap length tail in
    λ le. (h, beyond_shared e m ts (as_toks c) (omega arith))
shared_at e (x ∷ cs) k b c [] rest m q n = absurd cc
shared_at e (x ∷ cs) k b c (t ∷ ts) rest m q n =
    let h : t.kind ≡ x.0 = cc in
    let tail : kinds_read ts ≡ firsts cs ++ k ∷ rest = cc in
    λ le. (h, shared_at e cs k b c ts rest m tail n)

long_enough : (cs : List (Kind × Bool)) (k : Kind) (ts : List Tok) (rest : List Kind) → kinds_read ts ≡ firsts cs ++ k ∷ rest → suc (length rest) ≤ length ts
long_enough cs k ts rest e =
    let len = kinds_length ts in
    let same = ap length e ∙ length-append (firsts cs) (k ∷ rest) in
    omega arith

not_clean : (cs : List (Kind × Bool)) (k : Kind) (c : List (Kind × Bool)) (ts : List Tok) (rest : List Kind) (m : ℕ) → kinds_read ts ≡ firsts cs ++ k ∷ rest → m ≡ suc (length rest) → CleanBefore m ts (as_toks (cs ++ (k, true) ∷ c)) → ⊥
not_clean [] k c [] rest m e n clean = cc
not_clean [] k c (t ∷ ts) rest m e n clean =
    let long = long_enough [] k (t ∷ ts) rest e in
    let bad = (clean (omega arith)).0 in cc
not_clean (x ∷ cs) k c [] rest m e n clean = cc
not_clean (x ∷ cs) k c (t ∷ ts) rest m e n clean =
    let long = long_enough (x ∷ cs) k (t ∷ ts) rest e in
    let tail : kinds_read ts ≡ firsts cs ++ k ∷ rest = cc in
    not_clean cs k c ts rest m tail n (clean (omega arith)).1

shared_all : (cs : List (Kind × Bool)) (ts : List Tok) → kinds_read ts ≡ firsts cs → SharedTokens 0 0 ts (as_toks cs)
shared_all [] [] e = tt
shared_all [] (t ∷ ts) e = absurd cc
shared_all (x ∷ cs) [] e = absurd cc
shared_all (x ∷ cs) (t ∷ ts) e =
    let h : t.kind ≡ x.0 = cc in
    let tail : kinds_read ts ≡ firsts cs = cc in
    λ le. (h, shared_all cs ts tail)

-- the second list is a front of the first
shared_front : (cs : List (Kind × Bool)) (ts : List Tok) (rest : List Kind) (m : ℕ) → kinds_read ts ≡ firsts cs ++ rest → m ≡ length rest → SharedTokens 1 m ts (as_toks cs)
shared_front [] [] rest m e n = tt
shared_front [] (t ∷ ts) rest m e n = let len = kinds_length (t ∷ ts) in let same = ap length e in omega arith
shared_front (x ∷ cs) [] rest m e n = absurd cc
shared_front (x ∷ cs) (t ∷ ts) rest m e n =
    let h : t.kind ≡ x.0 = cc in
    let tail : kinds_read ts ≡ firsts cs ++ rest = cc in
    λ le. (h, shared_front cs ts rest m tail n)

-- cells whose kinds begin so
split_cells : (pre : List Kind) (k : Kind) (c : List Kind) (cs : List (Kind × Bool)) → firsts cs ≡ pre ++ k ∷ c → (a : List (Kind × Bool)) × (b : Bool) × (d : List (Kind × Bool)) × (cs ≡ a ++ (k, b) ∷ d) × (firsts a ≡ pre)
split_cells [] k c [] e = absurd cc
split_cells [] k c (x ∷ cs) e = let h : x.0 ≡ k = cc in ([], x.1, cs, ap (λ (i : Kind). (i, x.1) ∷ cs) h, refl)
split_cells (p ∷ pre) k c [] e = absurd cc
split_cells (p ∷ pre) k c (x ∷ cs) e =
    let h : x.0 ≡ p = cc in
    let tail : firsts cs ≡ pre ++ k ∷ c = cc in
    let r = split_cells pre k c cs tail in
    (x ∷ r.0, r.1, r.2, ap (λ (l : List (Kind × Bool)). x ∷ l) r.3, cc (h, r.4))

-- a longer front goes on with the next token
longer_front : (pre rest pre' rest' : List Kind) → pre ++ rest ≡ pre' ++ rest' → length pre < length pre' → (k : Kind) × (r : List Kind) × (more : List Kind) × (rest ≡ k ∷ r) × (pre' ≡ pre ++ k ∷ more)
longer_front [] rest [] rest' e h = absurd (omega arith)
longer_front [] [] (k ∷ more) rest' e h = absurd cc
longer_front [] (x ∷ rest) (k ∷ more) rest' e h = let same : x ≡ k = cc in (k, rest, more, ap (λ (i : Kind). i ∷ rest) same, refl)
longer_front (p ∷ pre) rest [] rest' e h = absurd (omega arith)
longer_front (p ∷ pre) rest (p' ∷ pre') rest' e h =
    let same : p' ≡ p = cc in
    let tail : pre ++ rest ≡ pre' ++ rest' = cc in
    let r = longer_front pre rest pre' rest' tail (omega arith) in
    (r.0, r.1, r.2, r.3, cc (same, r.4))

-- a fault is among the tokens
pub fault_within : (a : Sym) (ts : List Tok) (d : Fault) → read limited a (at 0 ts) ≡ Err d → left_of d ≤ length ts
fault_within a ts d e = read_within_left a (at 0 ts) d e

-- ---- the laws

module _ (a : Sym) (bare : Tree a → Tree a) (P : Tree a → Type 0) (formed : (x : Tree a) → P x → Formed a x)
    (complete : (x : Tree a) → Formed a x → read told a (at 0 (tokens_told (spell a x []))) ≡ Ok (bare x, at 0 [])) (ts : List Tok)
    (make : (x : Tree a) → Formed a x → (pre rest : List Kind) (c : List (Kind × Bool)) → kinds_read ts ≡ pre ++ rest → kinds_in (spell a x []) ≡ pre ++ firsts c → AreSpare c → P x) where
  abbrev pub whole : Tree a → List Piece
  whole x = spell a x []

  -- how a part's tokens bear on the answer
  compared : (e : ℕ) (most : e ≤ 1) (m : ℕ) (x : Tree a) → P x → SharedTokens e m ts (as_toks (cells (whole x))) → ReadsAlike e m ts (tokens_told (whole x)) (read limited a (at 0 ts)) []
  compared e most m x h sh =
      follows table_flags e most m a (at 0 ts) (at 0 (tokens_told (whole x))) (bare x, at 0 []) (subst (λ (us : List Tok). SharedTokens e m ts us) (sym (flat_is (whole x))) sh) (complete x (formed x h))

  clean_cells : (m : ℕ) (x : Tree a) → CleanBefore m ts (tokens_told (whole x)) → CleanBefore m ts (as_toks (cells (whole x)))
  clean_cells m x c = subst (λ (us : List Tok). CleanBefore m ts us) (flat_is (whole x)) c

  fault_clean : (e n m : ℕ) (d : Fault) (us : List Tok) → (d ≡ Syntax n) ⊎ (d ≡ TooDeep n) → n < m → ReadsAlike {X = Tree a} e m ts us (Err d) [] → CleanBefore m ts us
  fault_clean e n m (Syntax k) us w lt f = f.1
  fault_clean e n m (TooDeep k) us w lt (inl f) = f.1
  fault_clean e n m (TooDeep k) us (inl w) lt (inr f) = absurd cc
  fault_clean e n m (TooDeep k) us (inr w) lt (inr f) = let same : k ≡ n = cc in absurd (let g = f.0 in omega arith)

  -- a node above a limit, before the fault
  earlier : (n : ℕ) (d : Fault) → (d ≡ Syntax n) ⊎ (d ≡ TooDeep n) → read limited a (at 0 ts) ≡ Err d → n ≤ length ts → NoDeepBefore whole P (kinds_read ts) (length ts - n)
  earlier n d w e within pre k rest split lt x h deep =
      let m = suc (length rest) in
      let parts : kinds_read ts ≡ firsts deep.before ++ k ∷ rest = split ∙ ap (λ (l : List Kind). l ++ k ∷ rest) (sym deep.begins) in
      let len = ap length split ∙ length-append pre (k ∷ rest) in
      let all = kinds_length ts in
      let sh : SharedTokens 0 m ts (as_toks (cells (whole x))) = subst (λ (cs : List (Kind × Bool)). SharedTokens 0 m ts (as_toks cs)) (sym deep.parts) (shared_at 0 deep.before k true deep.after ts rest m parts refl) in
      let answer : ReadsAlike {X = Tree a} 0 m ts (tokens_told (whole x)) (Err d) [] = subst (λ (o : Out (Tree a)). ReadsAlike 0 m ts (tokens_told (whole x)) o []) e (compared 0 (omega arith) m x h sh) in
      not_clean deep.before k deep.after ts rest m parts refl (subst (λ (cs : List (Kind × Bool)). CleanBefore m ts (as_toks cs)) deep.parts (clean_cells m x (fault_clean 0 n m d (tokens_told (whole x)) w (omega arith) answer)))

  -- what a part with more tokens says of the answer
  goes_on_shared : (x : Tree a) (pre : List Kind) (k : Kind) (c rest : List Kind) (m : ℕ) → kinds_read ts ≡ pre ++ k ∷ rest → kinds_in (whole x) ≡ pre ++ k ∷ c → m ≡ suc (length rest) → SharedTokens 0 m ts (as_toks (cells (whole x)))
  goes_on_shared x pre k c rest m split same is =
      let parts = split_cells pre k c (cells (whole x)) (sym (kinds_in_cells (whole x)) ∙ same) in
      let begins : kinds_read ts ≡ firsts parts.0 ++ k ∷ rest = split ∙ ap (λ (l : List Kind). l ++ k ∷ rest) (sym parts.4) in
      subst (λ (cs : List (Kind × Bool)). SharedTokens 0 m ts (as_toks cs)) (sym parts.3) (shared_at 0 parts.0 k parts.1 parts.2 ts rest m begins is)

  stop : (n : ℕ) (pre : List Kind) (rest : List Kind) → read limited a (at 0 ts) ≡ Err (Syntax n) → length rest ≡ n → kinds_read ts ≡ pre ++ rest → ItemStops whole P pre rest
  stop n pre [] e len split = λ x h same.
      let all : kinds_read ts ≡ firsts (cells (whole x)) = split ∙ append-nil pre ∙ sym same ∙ kinds_in_cells (whole x) in
      let answer : ReadsAlike {X = Tree a} 0 0 ts (tokens_told (whole x)) (Err (Syntax n)) [] = subst (λ (o : Out (Tree a)). ReadsAlike 0 0 ts (tokens_told (whole x)) o []) e (compared 0 (omega arith) 0 x h (shared_all (cells (whole x)) ts all)) in
      let bad = answer.0 in absurd (omega arith)
  stop n pre (k ∷ rest) e len split = λ x h c same.
      let answer : ReadsAlike {X = Tree a} 0 n ts (tokens_told (whole x)) (Err (Syntax n)) [] = subst (λ (o : Out (Tree a)). ReadsAlike 0 n ts (tokens_told (whole x)) o []) e (compared 0 (omega arith) n x h (goes_on_shared x pre k c rest n split same (sym len))) in
      let bad = answer.0 in absurd (omega arith)

  pub exact_syntax : (n : ℕ) → read limited a (at 0 ts) ≡ Err (Syntax n) → IsSyntaxAt whole P (kinds_read ts) (length ts - n)
  exact_syntax n e =
      let v = (is_viable table_live table_ok).by a (at 0 ts) (Syntax n) e in
      let r = v.2 [] in
      let split : kinds_read ts ≡ kinds_read r.0 ++ kinds_read r.1 = ap kinds_read r.3 ∙ kinds_append r.0 r.1 in
      let tokens : kinds_in (whole v.0) ≡ kinds_read r.0 ++ firsts r.2 = kinds_in_cells (whole v.0) ∙ ap firsts r.5 ∙ firsts_plain r.0 r.2 in
      let len = ap length r.3 ∙ length-append r.0 r.1 in
      let pre_len = kinds_length r.0 in
      let rest_len = kinds_length r.1 in
      let n_is = r.4 in
      record {
        pre = kinds_read r.0;
        rest = kinds_read r.1;
        split = split;
        place = omega arith;
        begins = (v.0, make v.0 v.1 (kinds_read r.0) (kinds_read r.1) r.2 split tokens (r.6 tt), firsts r.2, tokens);
        stops = stop n (kinds_read r.0) (kinds_read r.1) e (rest_len ∙ r.4) split;
        first = earlier n (Syntax n) (inl refl) e (omega arith);
      }

  -- a part whose tokens begin with one at which a node is too deep
  every_deep : (n : ℕ) (pre : List Kind) (k : Kind) (rest : List Kind) → read limited a (at 0 ts) ≡ Err (TooDeep n) → suc (length rest) ≡ n → kinds_read ts ≡ pre ++ k ∷ rest → (x : Tree a) → P x → (c : List Kind) → kinds_in (whole x) ≡ pre ++ k ∷ c → IsWithin (whole x) → ⊥
  every_deep n pre k rest e len split x h c same within =
      go (subst (λ (o : Out (Tree a)). ReadsAlike 0 n ts (tokens_told (whole x)) o []) e (compared 0 (omega arith) n x h (goes_on_shared x pre k c rest n split same (sym len))))
    where
      go : ReadsAlike {X = Tree a} 0 n ts (tokens_told (whole x)) (Err (TooDeep n)) [] → ⊥
      go (inl f) = let g = f.0 in omega arith
      go (inr f) = f.1 (no_flag (whole x) within)

  pub exact_deep : (n : ℕ) → read limited a (at 0 ts) ≡ Err (TooDeep n) → IsDeepAt whole P (kinds_read ts) (length ts - n)
  exact_deep n e =
      let v = (is_viable table_live table_ok).by a (at 0 ts) (TooDeep n) e in
      let r = v.2 [] in
      let split : kinds_read ts ≡ kinds_read r.0 ++ r.1.kind ∷ kinds_read r.2 = ap kinds_read r.4 ∙ kinds_append r.0 (r.1 ∷ r.2) in
      let tokens : kinds_in (whole v.0) ≡ kinds_read r.0 ++ firsts ((r.1.kind, true) ∷ r.3) = kinds_in_cells (whole v.0) ∙ ap firsts r.6 ∙ firsts_plain r.0 ((r.1.kind, true) ∷ r.3) in
      let len = ap length r.4 ∙ length-append r.0 (r.1 ∷ r.2) in
      let pre_len = kinds_length r.0 in
      let rest_len = kinds_length r.2 in
      let n_is = r.5 in
      let longer : kinds_in (whole v.0) ≡ (kinds_read r.0 ++ r.1.kind ∷ []) ++ firsts r.3 = tokens ∙ sym (append_assoc (kinds_read r.0) (r.1.kind ∷ []) (firsts r.3)) in
      let parted : kinds_read ts ≡ (kinds_read r.0 ++ r.1.kind ∷ []) ++ kinds_read r.2 = split ∙ sym (append_assoc (kinds_read r.0) (r.1.kind ∷ []) (kinds_read r.2)) in
      record {
        pre = kinds_read r.0;
        token = r.1.kind;
        rest = kinds_read r.2;
        split = split;
        place = omega arith;
        part = (v.0, make v.0 v.1 (kinds_read r.0 ++ r.1.kind ∷ []) (kinds_read r.2) r.3 parted longer (r.7 tt), record { before = plain_tokens r.0; after = r.3; parts = r.6; begins = only_plain r.0 });
        first = earlier n (TooDeep n) (inr refl) e (omega arith);
        every = λ x h c same within. every_deep n (kinds_read r.0) r.1.kind (kinds_read r.2) e (ap suc rest_len ∙ r.5) split x h c same within;
      }

  -- a fault behind a whole part
  no_part_syntax : (n : ℕ) → read limited a (at 0 ts) ≡ Err (Syntax n) → IsNoPart whole P (kinds_read ts)
  no_part_syntax n e x pre rest split h within same ends =
      let m = length rest in
      let cut : kinds_read ts ≡ firsts (cells (whole x)) ++ rest = split ∙ ap (λ (l : List Kind). l ++ rest) (sym same ∙ kinds_in_cells (whole x)) in
      let answer : ReadsAlike {X = Tree a} 1 m ts (tokens_told (whole x)) (Err (Syntax n)) [] = subst (λ (o : Out (Tree a)). ReadsAlike 1 m ts (tokens_told (whole x)) o []) e (compared 1 (omega arith) m x h (shared_front (cells (whole x)) ts rest m cut refl)) in
      let s = exact_syntax n e in
      let len = ap length split ∙ length-append pre rest in
      let all = kinds_length ts in
      let place = s.place in
      let lt = answer.0 in
      let l = longer_front pre rest s.pre s.rest (sym split ∙ s.split) (omega arith) in
      clash l.0 l.1 l.3 l.2 l.4 s.begins
    where
      clash : (k : Kind) (r : List Kind) → rest ≡ k ∷ r → (more : List Kind) {later : List Kind} → later ≡ pre ++ k ∷ more → ItemBegins whole P later → ⊥
      clash k r is more longer b =
          let on : NoItemGoesOn whole P pre k = subst (λ (l : List Kind). ItemEnds whole P pre l) is ends in
          on b.0 b.1 (more ++ b.2) (b.3 ∙ ap (λ (l : List Kind). l ++ b.2) longer ∙ append_assoc pre (k ∷ more) b.2)

  no_part_deep : (n : ℕ) → read limited a (at 0 ts) ≡ Err (TooDeep n) → IsNoPart whole P (kinds_read ts)
  no_part_deep n e x pre rest split h within same ends =
      let cut : kinds_read ts ≡ firsts (cells (whole x)) ++ rest = split ∙ ap (λ (l : List Kind). l ++ rest) (sym same ∙ kinds_in_cells (whole x)) in
      go (subst (λ (o : Out (Tree a)). ReadsAlike 1 (length rest) ts (tokens_told (whole x)) o []) e (compared 1 (omega arith) (length rest) x h (shared_front (cells (whole x)) ts rest (length rest) cut refl)))
    where
      clash : (k : Kind) (r : List Kind) → rest ≡ k ∷ r → (more : List Kind) {later : List Kind} → later ≡ pre ++ k ∷ more → (y : Tree a) → P y → (c : List Kind) → kinds_in (whole y) ≡ later ++ c → ⊥
      clash k r is more longer y p c b =
          let on : NoItemGoesOn whole P pre k = subst (λ (l : List Kind). ItemEnds whole P pre l) is ends in
          on y p (more ++ c) (b ∙ ap (λ (l : List Kind). l ++ c) longer ∙ append_assoc pre (k ∷ more) c)

      begun : (ps : List Piece) (later : List Kind) (k : Kind) → PiecesStartDeep ps later k → (c : List Kind) × (kinds_in ps ≡ later ++ c)
      begun ps later k d = (k ∷ firsts d.after, kinds_in_cells ps ∙ ap firsts d.parts ∙ firsts_on d.before ((k, true) ∷ d.after) ∙ ap (λ (l : List Kind). l ++ k ∷ firsts d.after) d.begins)
        where
          firsts_on : (b c : List (Kind × Bool)) → firsts (b ++ c) ≡ firsts b ++ firsts c
          firsts_on [] c = refl
          firsts_on (y ∷ b) c = ap (λ (l : List Kind). y.0 ∷ l) (firsts_on b c)

      go : ReadsAlike {X = Tree a} 1 (length rest) ts (tokens_told (whole x)) (Err (TooDeep n)) [] → ⊥
      go (inl f) =
          let s = exact_deep n e in
          let len = ap length split ∙ length-append pre rest in
          let all = kinds_length ts in
          let place = s.place in
          let lt = f.0 in
          let l = longer_front pre rest s.pre (s.token ∷ s.rest) (sym split ∙ s.split) (omega arith) in
          let b = begun (whole s.part.0) s.pre s.token s.part.2 in
          clash l.0 l.1 l.3 l.2 l.4 s.part.0 s.part.1 b.0 b.1
      go (inr f) = f.1 (no_flag (whole x) within)

  pub no_part : (d : Fault) → read limited a (at 0 ts) ≡ Err d → IsNoPart whole P (kinds_read ts)
  no_part (Syntax n) e = no_part_syntax n e
  no_part (TooDeep n) e = no_part_deep n e

  -- a part that is read
  pub record IsRead (x : Tree a) (s : State) : Type 0 where
    pub pre : List Tok
    pub split : ts ≡ pre ++ s.rest
    pub part : P x
    pub tokens : kinds_in (whole x) ≡ kinds_read pre
    pub lies : Lies s.rest 0 (whole x) ts
    pub ends : ItemEnds whole P (kinds_read pre) (kinds_read s.rest)

  ends_here : (x : Tree a) (e : ℕ) (pre rest : List Tok) → read limited a (at 0 ts) ≡ Ok (x, at e rest) → ts ≡ pre ++ rest → ItemEnds whole P (kinds_read pre) (kinds_read rest)
  ends_here x e pre [] is split = tt
  ends_here x e pre (t ∷ rest) is split = λ y h c same.
      let m = suc (length rest) in
      let parts : kinds_read ts ≡ kinds_read pre ++ t.kind ∷ kinds_read rest = ap kinds_read split ∙ kinds_append pre (t ∷ rest) in
      let len = kinds_length rest in
      let answer : ReadsAlike {X = Tree a} 0 m ts (tokens_told (whole y)) (Ok (x, at e (t ∷ rest))) [] = subst (λ (o : Out (Tree a)). ReadsAlike 0 m ts (tokens_told (whole y)) o []) is (compared 0 (omega arith) m y h (goes_on_shared y (kinds_read pre) t.kind c (kinds_read rest) m parts same (ap suc (sym len)))) in
      let bad = answer.0 in absurd (omega arith)

  pub exact_ok : (x : Tree a) (s : State) → read limited a (at 0 ts) ≡ Ok (x, s) → IsRead x s
  exact_ok x s e =
      let k = (is_sound table_ok).by a (at 0 ts) (x, s) e in
      let l = k.1 [] in
      let tokens : kinds_in (whole x) ≡ kinds_read l.pre = kinds_in_cells (whole x) ∙ ap firsts l.cells_are ∙ firsts_plain l.pre [] ∙ append-nil (kinds_read l.pre) in
      record {
        pre = l.pre;
        split = l.split;
        part = make x k.0 (kinds_read l.pre) (kinds_read s.rest) [] (ap kinds_read l.split ∙ kinds_append l.pre s.rest) (tokens ∙ sym (append-nil (kinds_read l.pre))) tt;
        tokens = tokens;
        lies = l.lies s.rest refl;
        ends = ends_here x s.end l.pre s.rest e l.split;
      }

  clean_end : (m : ℕ) (rs : List Tok) → CleanBefore m rs []
  clean_end m [] = tt
  clean_end m (r ∷ rs) = tt

  -- where a part is read, no node above a limit starts among the tokens
  pub first_ok : (x : Tree a) (s : State) (i : ℕ) → read limited a (at 0 ts) ≡ Ok (x, s) → NoDeepBefore whole P (kinds_read ts) i
  first_ok x s i e pre k rest split lt y h deep =
      let m = suc (length rest) in
      let parts : kinds_read ts ≡ firsts deep.before ++ k ∷ rest = split ∙ ap (λ (l : List Kind). l ++ k ∷ rest) (sym deep.begins) in
      let sh : SharedTokens 0 m ts (as_toks (cells (whole y))) = subst (λ (cs : List (Kind × Bool)). SharedTokens 0 m ts (as_toks cs)) (sym deep.parts) (shared_at 0 deep.before k true deep.after ts rest m parts refl) in
      let answer : ReadsAlike {X = Tree a} 0 m ts (tokens_told (whole y)) (Ok (x, s)) [] = subst (λ (o : Out (Tree a)). ReadsAlike 0 m ts (tokens_told (whole y)) o []) e (compared 0 (omega arith) m y h sh) in
      not_clean deep.before k deep.after ts rest m parts refl (subst (λ (cs : List (Kind × Bool)). CleanBefore m ts (as_toks cs)) deep.parts (clean_cells m y (answer.1 (clean_end m s.rest))))
