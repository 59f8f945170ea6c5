-- The steps of a schedule, read from their tokens.
use Rattle.std.proofs.Common.{◌≡◌, ℕ, ◌+◌, ◌≤◌, List, [], ◌∷◌, ◌++◌, length, map, codes, None, refl, ◌∙◌, ap, arith, append_assoc}
use Rattle.std.proofs.lemmas.Bool.{le-ltb, cond-false}
use Rattle.spi_text.specs.declared.lines.Span.{Span}
use Rattle.spi_lex.specs.declared.token.Token.{Token}
use Rattle.spi_lex.specs.declared.token.Kind.{Kind}
use Rattle.spi_lex.specs.declared.token.Kind.TheVariants as kinds
use Rattle.spi_lex.specs.declared.token.Mark.TheVariants.{Semicolon}
use Rattle.spi_lex.specs.Lexing.{kinds_of}
use Rattle.spi_tree.specs.Trees as t
use Rattle.spi_tree.specs.Pieces.{steps_pieces}
use Rattle.spi_run.specs.Reduction.{Step, act, talk}
use Rattle.spi_scope.specs.Parts.{step_in}
use Rattle.spi_scope.specs.Points.{in_order, steps_points}
use Rattle.spi_scope.specs.First.{Clean}
use Rattle.spi_spell.proofs.Reading.{ReadsTree}
use Rattle.spi_spell.proofs.Texts.{step_kinds, steps_kinds}

-- as many steps, from the tokens on which theirs stand first, the token before which ends at e
abbrev pub ReadSteps : List Step → ℕ → List Token → List Kind → Type 0
ReadSteps ss e ts ks = ReadsTree (λ (steps : List t.Step). length steps ≡ length ss) (λ (steps : List t.Step). map step_in steps) steps_pieces ss e ts ks

abbrev span_of_tokens : Token → Token → Span
span_of_tokens a b = record { from = a.span.from; to = b.span.to }

read_act : (i : ℕ) (ss : List Step) (e : ℕ) (ts : List Token) (ks : List Kind) → ((f : ℕ) (us : List Token) → kinds_of us ≡ steps_kinds ss ++ ks → ReadSteps ss f us ks)
    → kinds_of ts ≡ step_kinds (act i) ++ (steps_kinds ss ++ ks) → ReadSteps (act i ∷ ss) e ts ks
read_act i ss e [] ks go is = absurd cc
read_act i ss e (a ∷ []) ks go is = absurd cc
read_act i ss e (a ∷ b ∷ []) ks go is = absurd cc
read_act i ss e (a ∷ b ∷ c ∷ ts) ks go is =
    let first : a.kind ≡ kinds.Word (codes "act") = cc in
    let place : b.kind ≡ kinds.Number i = cc in
    let closed : c.kind ≡ kinds.Mark Semicolon = cc in
    let behind : kinds_of ts ≡ steps_kinds ss ++ ks = cc in
    let x = go c.span.to ts behind in
    record {
      read = t.act (span_of_tokens a c) i ∷ x.read;
      are = ap (λ (l : List Step). act i ∷ l) x.are;
      is = omega (arith, x.is);
      rest = x.rest;
      spells = λ after r h. (refl, (first, refl, (place, refl, (closed, refl, (refl, x.spells after r h)))));
    }

read_talk : (i j : ℕ) (ss : List Step) (e : ℕ) (ts : List Token) (ks : List Kind) → ((f : ℕ) (us : List Token) → kinds_of us ≡ steps_kinds ss ++ ks → ReadSteps ss f us ks)
    → kinds_of ts ≡ step_kinds (talk i j) ++ (steps_kinds ss ++ ks) → ReadSteps (talk i j ∷ ss) e ts ks
read_talk i j ss e [] ks go is = absurd cc
read_talk i j ss e (a ∷ []) ks go is = absurd cc
read_talk i j ss e (a ∷ b ∷ []) ks go is = absurd cc
read_talk i j ss e (a ∷ b ∷ d ∷ []) ks go is = absurd cc
read_talk i j ss e (a ∷ b ∷ d ∷ c ∷ ts) ks go is =
    let first : a.kind ≡ kinds.Word (codes "talk") = cc in
    let out : b.kind ≡ kinds.Number i = cc in
    let inp : d.kind ≡ kinds.Number j = cc in
    let closed : c.kind ≡ kinds.Mark Semicolon = cc in
    let behind : kinds_of ts ≡ steps_kinds ss ++ ks = cc in
    let x = go c.span.to ts behind in
    record {
      read = t.talk (span_of_tokens a c) i j ∷ x.read;
      are = ap (λ (l : List Step). talk i j ∷ l) x.are;
      is = omega (arith, x.is);
      rest = x.rest;
      spells = λ after r h. (refl, (first, refl, (out, refl, (inp, refl, (closed, refl, (refl, x.spells after r h))))));
    }

pub read_steps : (ss : List Step) (e : ℕ) (ts : List Token) (ks : List Kind) → kinds_of ts ≡ steps_kinds ss ++ ks → ReadSteps ss e ts ks
read_steps [] e ts ks is = record { read = []; is = refl; are = refl; rest = record { end = e; tokens = ts; left = is }; spells = λ after r h. h }
read_steps (act i ∷ ss) e ts ks is = read_act i ss e ts ks (λ f us q. read_steps ss f us ks q) (is ∙ append_assoc (step_kinds (act i)) (steps_kinds ss) ks)
read_steps (talk i j ∷ ss) e ts ks is = read_talk i j ss e ts ks (λ f us q. read_steps ss f us ks q) (is ∙ append_assoc (step_kinds (talk i j)) (steps_kinds ss) ks)

-- nothing is wrong with at most 10,000 steps
pub steps_clean : (i n c : ℕ) (xs : List t.Step) → i + length xs ≤ 10001 → Clean c (in_order (steps_points i n xs))
steps_clean i n c [] few = tt
steps_clean i n c (x ∷ xs) few = (cond-false _ _ None (le-ltb 10000 i (omega arith)), steps_clean (i + 1) n (c + 0) xs (omega arith))
