-- The nonce handshake as a tree. Its nodes and words stand nowhere in particular: each has the empty span at 0.
use Rattle.std.specs.Prelude.{List, [], ◌∷◌, ℕ, codes}
use Rattle.spi_tree.specs.declared.tree.SWord.{SWord}
use Rattle.spi_tree.specs.Trees as t
use Rattle.spi_tree.specs.Trees.{nowhere}

abbrev pub word : List ℕ → SWord
word spelling = record { word = spelling; span = nowhere }

abbrev pub name : List ℕ → t.Msg
name spelling = t.name nowhere (word spelling)

abbrev pub pair : t.Msg → t.Msg → t.Msg
pair m n = t.tuple nowhere m n t.no_msgs

-- (a, b, m)
abbrev pub label : t.Msg
label = t.tuple nowhere (name (codes "a")) (name (codes "b")) (t.more_msgs (name (codes "m")) t.no_msgs)

abbrev pub untrusted_type : t.Ty
untrusted_type = t.un nowhere

-- Nonce [end (a, b, m)]
abbrev pub proof : t.Ty
proof = t.nonce nowhere (t.ends nowhere label ∷ [])

-- (m: Un, n: Nonce [end (a, b, m)])
abbrev pub answer : t.Ty
answer = t.tuple_ty nowhere (word (codes "m")) untrusted_type t.no_fields (t.named (word (codes "n")) proof)

abbrev pub answer_name : t.Ty
answer_name = t.abbr nowhere (word (codes "Msg"))

abbrev pub net : t.Msg
net = name (codes "net")

-- inp net (q: Un); new (m: Un); begin (a, b, m); cast q is (p: Nonce [end (a, b, m)]); out net {(m, p)}k
abbrev pub answering : t.Proc
answering =
    t.inp nowhere net (word (codes "q")) untrusted_type (
    t.new nowhere (word (codes "m")) untrusted_type (
    t.begin nowhere label (
    t.cast nowhere (name (codes "q")) (word (codes "p")) proof (
    t.out nowhere net (t.enc nowhere (pair (name (codes "m")) (name (codes "p"))) (name (codes "k")))))))

-- split x is (m: Un, p: Nonce [end (a, b, m)]); check n is p; end (a, b, m); stop
abbrev pub checking : t.Proc
checking =
    t.split nowhere (name (codes "x")) (word (codes "m")) untrusted_type (word (codes "p")) proof (
    t.check nowhere (name (codes "n")) (name (codes "p")) (
    t.end nowhere label (t.stop nowhere)))

-- new (n: Un); out net n; inp net (c: Un); decrypt c is {x: Msg}k; split ..
abbrev pub asking : t.Proc
asking =
    t.new nowhere (word (codes "n")) untrusted_type (
    t.out_then nowhere net (name (codes "n")) (
    t.inp nowhere net (word (codes "c")) untrusted_type (
    t.decrypt nowhere (name (codes "c")) (word (codes "x")) answer_name (name (codes "k")) checking)))

-- new (k: Key(Msg)); ( .. | .. )
abbrev pub handshake : t.Proc
handshake = t.new nowhere (word (codes "k")) (t.key nowhere answer_name) (t.group nowhere answering asking)

-- free a, b, net; type Msg = (m: Un, n: Nonce [end (a, b, m)]);
abbrev pub declarations : List t.Declared
declarations =
    t.free nowhere (word (codes "a")) (word (codes "b") ∷ word (codes "net") ∷ [])
    ∷ t.abbreviated nowhere (word (codes "Msg")) answer ∷ []
