-- One generated session as it is written by hand.
use Rattle.std.specs.Prelude.{List, [], ◌∷◌, ◌++◌, ℕ, codes}

-- the texts one behind the other, with a space after each
abbrev pub in_turn : List (List ℕ) → List ℕ
in_turn [] = []
in_turn (text ∷ texts) = text ++ 32 ∷ in_turn texts

abbrev pub handshake_text : List ℕ
handshake_text = in_turn (
    codes "free a, b, net;"
    ∷ codes "type Msg = (m: Un, n: Nonce [end (a, b, m)]);"
    ∷ codes "process new (k: Key(Msg)); ("
    ∷ codes "inp net (q: Un); new (m: Un); begin (a, b, m);"
    ∷ codes "cast q is (p: Nonce [end (a, b, m)]); out net {(m, p)}k"
    ∷ codes "| new (n: Un); out net n; inp net (c: Un);"
    ∷ codes "decrypt c is {x: Msg}k; split x is (m: Un, p: Nonce [end (a, b, m)]);"
    ∷ codes "check n is p; end (a, b, m); stop )"
    ∷ [])
