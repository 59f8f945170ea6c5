-- Marks and reserved words with one number are the same.
use Rattle.std.proofs.Common.{◌≡◌, ℕ, List, [], ◌∷◌, get_or, refl, sym, ap, ◌∙◌}
use Rattle.spi_lex.specs.declared.token.Reserved.{Reserved}
use Rattle.spi_lex.specs.declared.token.Reserved.TheVariants as word
use Rattle.spi_lex.specs.declared.token.Mark.{Mark}
use Rattle.spi_lex.specs.declared.token.Mark.TheVariants as mark
use Rattle.spi_parse.specs.Table.{mark_number, reserved_number}

-- what is got back from its number has that number alone
same_by : {A : Type 0} (number : A → ℕ) (back : ℕ → A) → ((a : A) → back (number a) ≡ a) → (a b : A) → number a ≡ number b → a ≡ b
same_by number back is a b e = sym (is a) ∙ ap back e ∙ is b

all_marks : List Mark
all_marks = mark.ParenOpen ∷ mark.ParenClose ∷ mark.BracketOpen ∷ mark.BracketClose ∷ mark.BraceOpen ∷ mark.BraceClose ∷ mark.Comma ∷ mark.Semicolon ∷ mark.Colon ∷ mark.Equals ∷ mark.Bar ∷ mark.Plus ∷ mark.NumberSign ∷ []

mark_back : (m : Mark) → get_or all_marks (mark_number m) mark.Plus ≡ m
unfolding all_marks
mark_back mark.ParenOpen = refl
mark_back _ = refl

pub same_mark : (a b : Mark) → mark_number a ≡ mark_number b → a ≡ b
same_mark = same_by mark_number (λ n. get_or all_marks n mark.Plus) mark_back

all_words : List Reserved
all_words = word.Free ∷ word.TypeWord ∷ word.Process ∷ word.Opponent ∷ word.Schedule ∷ word.Derivation ∷ word.Out ∷ word.Inp ∷ word.Repeat ∷ word.Split ∷ word.Match ∷ word.Case ∷ word.Decrypt ∷ word.Check ∷ word.Begin ∷ word.End ∷ word.Cast ∷ word.New ∷ word.Stop ∷ word.Is ∷ word.Inl ∷ word.Inr ∷ word.Un ∷ word.Key ∷ word.Nonce ∷ word.Hash ∷ word.EndMany ∷ word.Many ∷ []

word_back : (w : Reserved) → get_or all_words (reserved_number w) word.Free ≡ w
unfolding all_words
word_back word.Free = refl
word_back _ = refl

pub same_reserved : (a b : Reserved) → reserved_number a ≡ reserved_number b → a ≡ b
same_reserved = same_by reserved_number (λ n. get_or all_words n word.Free) word_back
