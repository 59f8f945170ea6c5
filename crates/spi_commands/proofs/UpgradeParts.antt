-- The upgrade of a file: there is one, it keeps all parts, and its canonical text is read as it.
use Rattle.std.proofs.Common.{◌≡◌, ℕ, ◌<◌, ◌≤◌, List, ◌∷◌, length, Option, refl, sym, ap, ◌∙◌, inl, inr, arith}
use Rattle.spi_term.specs.Spelling.{Spelling}
use Rattle.spi_run.specs.Reduction.{Step}
use Rattle.spi_rules.specs.Derivations.{RuleUse}
use Rattle.spi_scope.specs.StandsFor.{Meant}
use Rattle.spi_show.specs.Files.{IsCanonicalText}
use Rattle.spi_spell.proofs.Canonical.{printed_reads_back, spelled_printable}
use Rattle.spi_commands.specs.Spelled.{limit, SpellsFile}
use Rattle.spi_commands.specs.Upgrading.{numbered_word, IsRenumbered, IsRespelled, AreRespelled, none_respelled, one_respelled, IsUpgrade}
use Rattle.spi_commands.proofs.UpgradeFiles.{upgraded_printable}

one_number : (names : List (List ℕ)) (old a b : List ℕ) → IsRenumbered names old a → IsRenumbered names old b → a ≡ b
one_number names old a b r q =
    let low : ¬ (r.number < q.number) = λ h. r.free (q.least r.number h) in
    let high : ¬ (q.number < r.number) = λ h. q.free (r.least q.number h) in
    let same : r.number ≡ q.number = omega (arith, low, high) in
    r.spelled ∙ ap (λ (n : ℕ). numbered_word old n) same ∙ sym q.spelled

one_spelling : (names : List (List ℕ)) (old a b : List ℕ) → IsRespelled names old a → IsRespelled names old b → a ≡ b
one_spelling names old a b (inl r) (inl q) = one_number names old a b r.1 q.1
one_spelling names old a b (inl r) (inr q) = absurd (q.0 r.0)
one_spelling names old a b (inr r) (inl q) = absurd (r.0 q.0)
one_spelling names old a b (inr r) (inr q) = r.1 ∙ sym q.1

one_respelling : (names : List (List ℕ)) {olds a b : List (List ℕ)} → AreRespelled names olds a → AreRespelled names olds b → a ≡ b
one_respelling names none_respelled none_respelled = refl
one_respelling names (one_respelled {old} {new = x} {news = xs} h r) (one_respelled {new = y} {news = ys} g q) =
    ap (λ (z : List ℕ). z ∷ xs) (one_spelling names old x y h g) ∙ ap (λ (zs : List (List ℕ)). y ∷ zs) (one_respelling names r q)

-- a file by its parts
abbrev upgraded_file : ℕ → List (List ℕ) → Spelling → Option Spelling → Option (List Step) → Option (List RuleUse) → Meant
upgraded_file v n p o s d = record { version = v; names = n; process = p; opponent = o; schedule = s; derivation = d }

same_file : (f g : Meant) → f.version ≡ g.version → f.names ≡ g.names → f.process ≡ g.process → f.opponent ≡ g.opponent → f.schedule ≡ g.schedule → f.derivation ≡ g.derivation → f ≡ g
same_file f g v n p o s d =
    ap (λ (x : ℕ). upgraded_file x f.names f.process f.opponent f.schedule f.derivation) v
    ∙ ap (λ (x : List (List ℕ)). upgraded_file g.version x f.process f.opponent f.schedule f.derivation) n
    ∙ ap (λ (x : Spelling). upgraded_file g.version g.names x f.opponent f.schedule f.derivation) p
    ∙ ap (λ (x : Option Spelling). upgraded_file g.version g.names g.process x f.schedule f.derivation) o
    ∙ ap (λ (x : Option (List Step)). upgraded_file g.version g.names g.process g.opponent x f.derivation) s
    ∙ ap (λ (x : Option (List RuleUse)). upgraded_file g.version g.names g.process g.opponent g.schedule x) d

pub one_upgrade : (file a b : Meant) → IsUpgrade file a → IsUpgrade file b → a ≡ b
one_upgrade file a b (inl (one, v, r)) (inl (two, w, q)) =
    same_file a b (v.version ∙ sym w.version) (one_respelling file.names r q) (v.process ∙ sym w.process)
    (v.opponent ∙ sym w.opponent) (v.schedule ∙ sym w.schedule) (v.derivation ∙ sym w.derivation)
one_upgrade file a b (inl (one, v, r)) (inr (two, e)) = absurd (let x : 1 ≡ 2 = sym one ∙ two in omega (arith, x))
one_upgrade file a b (inr (two, e)) (inl (one, v, r)) = absurd (let x : 1 ≡ 2 = sym one ∙ two in omega (arith, x))
one_upgrade file a b (inr (two, e)) (inr (more, d)) = e ∙ sym d

-- the process and the derivation stay
pub upgrade_keeps : (file upgraded : Meant) → IsUpgrade file upgraded → (upgraded.process ≡ file.process) × (upgraded.derivation ≡ file.derivation)
upgrade_keeps file upgraded (inl (one, v, r)) = (v.process, v.derivation)
upgrade_keeps file upgraded (inr (two, e)) = (ap (λ (f : Meant). f.process) e, ap (λ (f : Meant). f.derivation) e)

abbrev pub ReadsUpgrade : Type 0
ReadsUpgrade = (bytes text : List ℕ) (file upgraded : Meant) → SpellsFile bytes file → IsUpgrade file upgraded → IsCanonicalText upgraded text → length text ≤ limit → SpellsFile text upgraded

pub upgrade_reads_back : ReadsUpgrade
upgrade_reads_back bytes text file upgraded spells is canonical short =
    let p = spelled_printable bytes file spells in
    printed_reads_back upgraded p.0 text (upgraded_printable file p.0 p.1 upgraded is) canonical short
