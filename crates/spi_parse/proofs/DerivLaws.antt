-- A use of a rule is read by the arity of its word.
use Rattle.std.proofs.Common.{◌≡◌, refl, ℕ, ◌≤◌, ◌<◌, Bool, true, false, List, [], ◌∷◌, length, Option, None, Err, sym, ap, subst, ◌∙◌}
use Rattle.std.specs.Prelude.{nat_lt}
use Rattle.std.proofs.lemmas.Bool.{le-ltb, lt-ltb}
use Rattle.spi_lex.specs.declared.token.Kind.TheVariants as K
use Rattle.spi_tree.specs.Pieces.{derivation_limit}
use Rattle.spi_parse.specs.Tokens.{Tok}
use Rattle.spi_parse.specs.declared.derivations.Shape.{Shape}
use Rattle.spi_parse.specs.declared.derivations.Shape.TheVariants.{NoRule, Leaf, One, Two, Three, Sub}
use Rattle.spi_parse.specs.declared.fault.Fault.TheVariants.{Syntax, TooDeep}
use Rattle.spi_parse.specs.Rules.{arity_of, writes_effect}
use Rattle.spi_parse.specs.Shapes.{is_rule, IsTreeShape}
use Rattle.spi_parse.specs.Table.{deriv, delta, rule_move, TableMove}
use Rattle.spi_parse.specs.Reading.{limited, read, reads_step, go_on}
use Rattle.spi_parse.proofs.Readers.{at}

at_word : (v : Bool) (n : ℕ) (w : List ℕ) (e : ℕ) (u : Tok) (us : List Tok) (o : Option ℕ) (b deep : Bool) → u.kind ≡ K.Word w → arity_of v w ≡ o → writes_effect w ≡ b → nat_lt derivation_limit n ≡ deep
    → go_on limited (read limited) (rule_move v n w o b) deep [] (at e (u ∷ us)) ≡ reads_step limited (read limited) (deriv v n) (at e (u ∷ us))
at_word v n w e u us o b deep kind arity writes low =
    let move : delta (deriv v n) u.kind ≡ rule_move v n w o b = ap (delta (deriv v n)) kind ∙ ap (λ (x : Option ℕ). rule_move v n w x (writes_effect w)) arity ∙ ap (λ (x : Bool). rule_move v n w o x) writes in
    sym (ap (λ (mv : TableMove (deriv v n) false). go_on limited (read limited) mv (nat_lt derivation_limit n) [] (at e (u ∷ us))) move
    ∙ ap (λ (d : Bool). go_on limited (read limited) (rule_move v n w o b) d [] (at e (u ∷ us))) low)

pub rule_is_first : (v : Bool) (n e : ℕ) (l us : List Tok) (u : Tok) (w : List ℕ) (o : Option ℕ) (b : Bool) → l ≡ u ∷ us → u.kind ≡ K.Word w → arity_of v w ≡ o → writes_effect w ≡ b → n ≤ derivation_limit
    → go_on limited (read limited) (rule_move v n w o b) false [] (at e (u ∷ us)) ≡ reads_step limited (read limited) (deriv v n) (at e l)
rule_is_first v n e l us u w o b k kind arity writes fits =
    subst (λ (x : List Tok). go_on limited (read limited) (rule_move v n w o b) false [] (at e (u ∷ us)) ≡ reads_step limited (read limited) (deriv v n) (at e x)) (sym k)
    (at_word v n w e u us o b false kind arity writes (le-ltb derivation_limit n fits))

-- no move of a rule is gone on with above the limit
above : (h : Shape) (v : Bool) (n : ℕ) (w : List ℕ) (e : ℕ) (u : Tok) (us : List Tok) (o : Option ℕ) (b : Bool) → IsTreeShape h o b → is_rule h ≡ true
    → go_on limited (read limited) (rule_move v n w o b) true [] (at e (u ∷ us)) ≡ Err (TooDeep (length (u ∷ us)))
above NoRule v n w e u us o b is q = absurd (let e = q in cc)
above Leaf v n w e u us o b is q = rw (is.0, is.1) refl
above One v n w e u us o b is q = rw (is.0, is.1) refl
above Two v n w e u us o b is q = rw (is.0, is.1) refl
above Three v n w e u us o b is q = rw (is.0, is.1) refl
above Sub v n w e u us o b is q = rw (is.0, is.1) refl

pub above_first : (h : Shape) (v : Bool) (n e : ℕ) (l us : List Tok) (u : Tok) (w : List ℕ) → l ≡ u ∷ us → u.kind ≡ K.Word w
    → IsTreeShape h (arity_of v w) (writes_effect w) → is_rule h ≡ true → derivation_limit < n
    → reads_step limited (read limited) (deriv v n) (at e l) ≡ Err (TooDeep (length l))
above_first h v n e l us u w k kind is q deep =
    subst (λ (x : List Tok). reads_step limited (read limited) (deriv v n) (at e x) ≡ Err (TooDeep (length x))) (sym k)
    (sym (at_word v n w e u us (arity_of v w) (writes_effect w) true kind refl refl (lt-ltb derivation_limit n deep))
    ∙ above h v n w e u us (arity_of v w) (writes_effect w) is q)

none_there : (h : Shape) (o : Option ℕ) (b : Bool) → IsTreeShape h o b → is_rule h ≡ false → o ≡ None
none_there NoRule o b is q = is
none_there Leaf o b is q = absurd (let e = q in cc)
none_there One o b is q = absurd (let e = q in cc)
none_there Two o b is q = absurd (let e = q in cc)
none_there Three o b is q = absurd (let e = q in cc)
none_there Sub o b is q = absurd (let e = q in cc)

pub none_first : (h : Shape) (v : Bool) (n e : ℕ) (l us : List Tok) (u : Tok) (w : List ℕ) → l ≡ u ∷ us → u.kind ≡ K.Word w
    → IsTreeShape h (arity_of v w) (writes_effect w) → is_rule h ≡ false
    → reads_step limited (read limited) (deriv v n) (at e l) ≡ Err (Syntax (length l))
none_first h v n e l us u w k kind is q =
    subst (λ (x : List Tok). reads_step limited (read limited) (deriv v n) (at e x) ≡ Err (Syntax (length x))) (sym k)
    (let none : arity_of v w ≡ None = none_there h (arity_of v w) (writes_effect w) is q in
    sym (at_word v n w e u us None (writes_effect w) (nat_lt derivation_limit n) kind none refl refl))
