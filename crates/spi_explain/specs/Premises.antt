-- What the typing rules for a process's form ask of its messages.
use Rattle.std.specs.Prelude.{List, [], ◌∷◌}
use Rattle.spi_blame.specs.Blaming.{Question, typed, labelled}
use Rattle.spi_blame.specs.Told.{question_of, TellsBlame}
use Rattle.spi_explain.specs.declared.blaming.Answer.{Answer}
use Rattle.spi_rules.specs.Environment.{Env}
use Rattle.spi_term.specs.Spelling.{Shape, leaf_at, prefix_at, fork_at}
use Rattle.spi_term.specs.Term.{un, pair_ty, sum_ty, key, Leaf, Sends, Stops, Prefix, Recvs, Serves, Splits, Selects, Decrypts, Checks, Begins, Ends, EndManys, Casts, Freshes, Fork, Branches, Pars, Process, leaf, prefix, fork}

abbrev pub leaf_premises : Leaf → List Question
leaf_premises (Sends m n) = typed m un ∷ typed n un ∷ []
leaf_premises Stops = []

-- Where two rules are for a form, the typed one and that for untrusted parts, the premises of the typed one come first. The
-- rule for a `check` of a nonce asks for any Nonce type, so that is none of these
abbrev pub prefix_premises : Prefix → List Question
prefix_premises (Recvs m t) = typed m un ∷ []
prefix_premises (Serves m t) = typed m un ∷ []
prefix_premises (Splits m t u) = typed m (pair_ty t u) ∷ typed m un ∷ []
prefix_premises (Selects m t n u) = typed m (pair_ty t u) ∷ typed n t ∷ typed m un ∷ typed n un ∷ []
prefix_premises (Decrypts m t n) = typed m un ∷ typed n (key t) ∷ typed n un ∷ []
prefix_premises (Checks m n) = typed m un ∷ typed n un ∷ []
prefix_premises (Begins m) = labelled m ∷ []
prefix_premises (Ends m) = labelled m ∷ []
prefix_premises (EndManys m) = labelled m ∷ []
prefix_premises (Casts m t) = typed m un ∷ []
prefix_premises (Freshes t) = []

abbrev pub fork_premises : Fork → List Question
fork_premises (Branches m t u) = typed m (sum_ty t u) ∷ typed m un ∷ []
fork_premises Pars = []

-- the questions that the rules for the process's form ask of its messages
abbrev pub premises : Process → List Question
premises (leaf l) = leaf_premises l
premises (prefix s p) = prefix_premises s
premises (fork f p q) = fork_premises f

abbrev pub premises_at : Shape → List Question
premises_at (leaf_at k l) = leaf_premises l
premises_at (prefix_at k s b) = prefix_premises s
premises_at (fork_at k f a r) = fork_premises f

-- an answer for each question, in order: nothing where the question holds, and else what is to blame
pub data AreAnswered (env : Env) : List Question → List Answer → Type 0 where
  answered_none : AreAnswered env [] []
  answered_next : {a : Answer} {qs : List Question} {rs : List Answer}
      → TellsBlame env (question_of a.message a.wanted) a.blame → AreAnswered env qs rs
      → AreAnswered env (question_of a.message a.wanted ∷ qs) (a ∷ rs)
