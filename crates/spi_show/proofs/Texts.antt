-- Texts of lists, one element more.
use Rattle.std.proofs.Common.{◌≡◌, ℕ, ◌+◌, ◌<◌, List, [], ◌∷◌, ◌++◌, length, map, take, get_or, sym, ap, ◌∙◌, append-nil, append_assoc}
use Rattle.std.specs.Prelude.{codes}
use Rattle.std.proofs.lemmas.List.{map-append, take_more}
use Rattle.spi_term.specs.Term.{Atom, Effect}
use Rattle.spi_term.specs.declared.term.Atom as D
use Rattle.spi_term.specs.View.{atom}
use Rattle.spi_rules.specs.Derivations.{RuleUse}
use Rattle.spi_rules.specs.declared.deriv.RuleUse as declared
use Rattle.spi_rules.specs.Deriv.{rule_use}
use Rattle.spi_show.specs.Terms.{atom_text, more_text}
use Rattle.spi_show.specs.Derivations.{use_text, uses_text}
use Rattle.spi_show.specs.Files.{words_text}

more_last : (spell : ℕ → List ℕ) (n : ℕ) (es : Effect) (a : Atom) → more_text spell n (es ++ a ∷ []) ≡ more_text spell n es ++ (codes ", " ++ atom_text spell n a)
more_last spell n [] a = ap (λ l. codes ", " ++ l) (append-nil (atom_text spell n a))
more_last spell n (b ∷ es) a =
    ap (λ l. codes ", " ++ (atom_text spell n b ++ l)) (more_last spell n es a)
    ∙ ap (λ l. codes ", " ++ l) (sym (append_assoc (atom_text spell n b) (more_text spell n es) (codes ", " ++ atom_text spell n a)))
    ∙ sym (append_assoc (codes ", ") (atom_text spell n b ++ more_text spell n es) (codes ", " ++ atom_text spell n a))

uses_last : (us : List RuleUse) (u : RuleUse) → uses_text (us ++ u ∷ []) ≡ uses_text us ++ use_text u
uses_last [] u = append-nil (use_text u)
uses_last (v ∷ us) u = ap (λ l. use_text v ++ l) (uses_last us u) ∙ sym (append_assoc (use_text v) (uses_text us) (use_text u))

-- one element more of the list that a loop goes over
pub more_next : (spell : ℕ → List ℕ) (n : ℕ) (start before after : List ℕ) (xs : List D.Atom) (i : ℕ) (x : D.Atom) → x ≡ get_or xs i x → i < length xs → before ≡ start ++ more_text spell n (map atom (take i xs)) → after ≡ (before ++ codes ", ") ++ atom_text spell n (atom x) → after ≡ start ++ more_text spell n (map atom (take (i + 1) xs))
more_next spell n start before after xs i x e l b a =
    let h : map atom (take (i + 1) xs) ≡ map atom (take i xs) ++ atom x ∷ []
    = ap (map atom) (take_more xs i x l ∙ ap (λ y. take i xs ++ y ∷ []) (sym e)) ∙ map-append atom (take i xs) (x ∷ []) in
    a
    ∙ append_assoc before (codes ", ") (atom_text spell n (atom x))
    ∙ ap (λ l. l ++ (codes ", " ++ atom_text spell n (atom x))) b
    ∙ append_assoc start (more_text spell n (map atom (take i xs))) (codes ", " ++ atom_text spell n (atom x))
    ∙ ap (λ l. start ++ l) (sym (more_last spell n (map atom (take i xs)) (atom x)) ∙ ap (more_text spell n) (sym h))

pub uses_next : (start before after : List ℕ) (xs : List declared.RuleUse) (i : ℕ) (x : declared.RuleUse) → x ≡ get_or xs i x → i < length xs → before ≡ start ++ uses_text (map rule_use (take i xs)) → after ≡ before ++ use_text (rule_use x) → after ≡ start ++ uses_text (map rule_use (take (i + 1) xs))
uses_next start before after xs i x e l b a =
    let h : map rule_use (take (i + 1) xs) ≡ map rule_use (take i xs) ++ rule_use x ∷ []
    = ap (map rule_use) (take_more xs i x l ∙ ap (λ y. take i xs ++ y ∷ []) (sym e)) ∙ map-append rule_use (take i xs) (x ∷ []) in
    a
    ∙ ap (λ l. l ++ use_text (rule_use x)) b
    ∙ append_assoc start (uses_text (map rule_use (take i xs))) (use_text (rule_use x))
    ∙ ap (λ l. start ++ l) (sym (uses_last (map rule_use (take i xs)) (rule_use x)) ∙ ap uses_text (sym h))

words_last : (ws : List (List ℕ)) (w : List ℕ) → words_text (ws ++ w ∷ []) ≡ words_text ws ++ (codes ", " ++ w)
words_last [] w = ap (λ l. codes ", " ++ l) (append-nil w)
words_last (v ∷ ws) w =
    ap (λ l. codes ", " ++ (v ++ l)) (words_last ws w)
    ∙ ap (λ l. codes ", " ++ l) (sym (append_assoc v (words_text ws) (codes ", " ++ w)))
    ∙ sym (append_assoc (codes ", ") (v ++ words_text ws) (codes ", " ++ w))

pub words_next : (start before after : List ℕ) (xs : List (List ℕ)) (i : ℕ) (x : List ℕ) → x ≡ get_or xs i x → i < length xs → before ≡ start ++ words_text (take i xs) → after ≡ (before ++ codes ", ") ++ x → after ≡ start ++ words_text (take (i + 1) xs)
words_next start before after xs i x e l b a =
    let h : take (i + 1) xs ≡ take i xs ++ x ∷ [] = take_more xs i x l ∙ ap (λ y. take i xs ++ y ∷ []) (sym e) in
    a
    ∙ append_assoc before (codes ", ") x
    ∙ ap (λ l. l ++ (codes ", " ++ x)) b
    ∙ append_assoc start (words_text (take i xs)) (codes ", " ++ x)
    ∙ ap (λ l. start ++ l) (sym (words_last (take i xs) x) ∙ ap words_text (sym h))
