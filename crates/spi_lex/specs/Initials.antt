-- The reserved words by their first bytes: what the look-up of a word goes by. No public clause rests on it.
use Rattle.std.specs.Prelude.{ℕ, Bool, List, [], ◌∷◌, ◌==◌, if◌then◌else◌}
use Rattle.spi_lex.specs.declared.token.Reserved.{Reserved}
use Rattle.spi_lex.specs.declared.token.Reserved.TheVariants.{Free, TypeWord, Process, Opponent, Schedule, Derivation, Out, Inp, Repeat, Split, Match, Case, Decrypt, Check, Begin, End, Cast, New, Stop, Is, Inl, Inr, Un, Key, Nonce, Hash, EndMany, Many}

abbrev pub words_from : Bool → ℕ → List Reserved
words_from later b =
    if b == 75 then Key ∷ []
    else (if b == 78 then Nonce ∷ []
    else (if b == 85 then Un ∷ []
    else (if b == 98 then Begin ∷ []
    else (if b == 99 then Case ∷ Check ∷ Cast ∷ []
    else (if b == 100 then Derivation ∷ Decrypt ∷ []
    else (if b == 101 then (if later then End ∷ EndMany ∷ [] else End ∷ [])
    else (if b == 102 then Free ∷ []
    else (if b == 104 then (if later then Hash ∷ [] else [])
    else (if b == 105 then Inp ∷ Is ∷ Inl ∷ Inr ∷ []
    else (if b == 109 then (if later then Match ∷ Many ∷ [] else Match ∷ [])
    else (if b == 110 then New ∷ []
    else (if b == 111 then Opponent ∷ Out ∷ []
    else (if b == 112 then Process ∷ []
    else (if b == 114 then Repeat ∷ []
    else (if b == 115 then Schedule ∷ Split ∷ Stop ∷ []
    else (if b == 116 then TypeWord ∷ []
    else []))))))))))))))))
