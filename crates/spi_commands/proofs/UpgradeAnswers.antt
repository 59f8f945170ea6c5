-- Upgraded files: the spellings of their names, one after another, and what is answered.
use Rattle.std.proofs.Common.{◌≡◌, ℕ, ◌+◌, ◌<◌, List, [], ◌∷◌, ◌++◌, length, take, get_or, Result, Ok, Err, IfOk, sym, ap, ◌∙◌, subst, ◌⊎◌, inl, inr}
use Rattle.std.specs.Prelude.{codes}
use Rattle.std.specs.Fmt.{decimal}
use Rattle.std.proofs.lemmas.List.{take_more, append_assoc}
use Rattle.spi_show.specs.Spelled.{IsLeastBehind}
use Rattle.spi_scope.specs.declared.file.File.{File}
use Rattle.spi_scope.specs.Files.{meant}
use Rattle.spi_scope.specs.StandsFor.{Meant}
use Rattle.spi_commands.specs.declared.answer.Answer.{Answer}
use Rattle.spi_commands.specs.Spelled.{SpellsFile}
use Rattle.spi_commands.specs.Reading.{IsRead}
use Rattle.spi_commands.specs.Refusals.{layered, Refuses}
use Rattle.spi_commands.specs.Canonical.{ShowsTo}
use Rattle.spi_commands.specs.Upgrading.{IsNewWord, IsSpelled, numbered_word, IsRespelled, AreRespelled, none_respelled, one_respelled, IsUpgrade, SpellsUpgrade, RefusesUpgrade, UpgradesTo}
use Rattle.spi_commands.proofs.AnswerText.{shown_as}

-- one name more
respelled_more : (names olds news : List (List ℕ)) (old new : List ℕ) → AreRespelled names olds news → IsRespelled names old new → AreRespelled names (olds ++ old ∷ []) (news ++ new ∷ [])
respelled_more names [] [] old new none_respelled r = one_respelled r none_respelled
respelled_more names [] (y ∷ news) old new h r = elim h [ ]
respelled_more names (x ∷ olds) [] old new h r = elim h [ ]
respelled_more names (x ∷ olds) (y ∷ news) old new (one_respelled h t) r = one_respelled h (respelled_more names olds news old new t r)

pub respelled_next : (names news later : List (List ℕ)) (i : ℕ) (old new : List ℕ) → AreRespelled names (take i names) news → old ≡ get_or names i old → i < length names → IsRespelled names old new → later ≡ news ++ new ∷ [] → AreRespelled names (take (i + 1) names) later
respelled_next names news later i old new a e l r f =
    let taken : take (i + 1) names ≡ take i names ++ old ∷ [] = take_more names i old l ∙ ap (λ y. take i names ++ y ∷ []) (sym e) in
    subst (λ olds. AreRespelled names olds later) (sym taken) (subst (AreRespelled names (take i names ++ old ∷ [])) (sym f) (respelled_more names (take i names) news old new a r))

-- a new word, with the least number behind it that makes it none of the names
pub respelled_new : (names : List (List ℕ)) (old prefix new : List ℕ) (n : ℕ) → IsNewWord old → prefix ≡ old ++ codes "_" → IsLeastBehind names prefix n → new ≡ prefix ++ decimal n → IsRespelled names old new
respelled_new names old prefix new n w e a f = inl (
  w,
  record {
    number = n;
    spelled = f ∙ same n;
    free = λ s. a.free (subst (λ word. IsSpelled names word) (sym (same n)) s);
    least = λ m l. subst (λ word. IsSpelled names word) (same m) (a.least m l);
  },
)
  where
    same : (m : ℕ) → prefix ++ decimal m ≡ numbered_word old m
    same m = ap (λ p. p ++ decimal m) e ∙ append_assoc old (codes "_") (decimal m)

pub respelled_if : {E : Type 0} (names : List (List ℕ)) (old prefix word : List ℕ) (n : ℕ) (r : Result (List ℕ) E) → IsNewWord old → prefix ≡ old ++ codes "_" → IsLeastBehind names prefix n → word ≡ prefix ++ decimal n → IfOk r (λ text. text ≡ word) → IfOk r (λ text. IsRespelled names old text)
respelled_if names old prefix word n (Ok text) w e a f g = respelled_new names old prefix text n w e a (g ∙ f)
respelled_if names old prefix word n (Err x) w e a f g = g

-- the file, and that its version is 1 or 2
pub read_spelled : (bytes : List ℕ) (file : File) → IsRead bytes file → SpellsFile bytes (meant file)
read_spelled bytes file r = (r.0, r.1, r.2)

pub read_version : (bytes : List ℕ) (file : File) → IsRead bytes file → (file.version ≡ 1) ⊎ (file.version ≡ 2)
read_version bytes file r = subst (λ v. (v ≡ 1) ⊎ (v ≡ 2)) (sym r.2.version) r.1.formed.formed.version

-- its text, or the refusal
pub upgrades : {E : Type 0} (bytes : List ℕ) (file upgraded : Meant) (result : Result Answer E) → SpellsFile bytes file → IsUpgrade file upgraded → IfOk result (λ a. ShowsTo bytes upgraded a.status a.output.items) → IfOk result (λ a. UpgradesTo bytes a.status a.output.items)
upgrades bytes file upgraded result spells is h =
    shown_as bytes upgraded (SpellsUpgrade bytes) (layered (Refuses bytes) (RefusesUpgrade bytes)) result
    (λ output p. (file, upgraded, spells, is, p)) (λ n o s l. inr (file, upgraded, spells, is, l)) h
