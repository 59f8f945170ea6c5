-- The answers of the loop that reads parts of one kind into a vector, while one begins at the token that is there.
use Rattle.std.proofs.Common.{◌≡◌, ℕ, ◌+◌, ◌≤◌, ◌<◌, Bool, List, [], ◌∷◌, ◌++◌, length, map, Result, Ok, Err, refl, ap, sym, subst, ◌∙◌}
use Rattle.std.specs.Global.{Vec}
use Rattle.std.specs.List.{AllByRecursion}
use Rattle.std.specs.Result.{IsErrAnd}
use Rattle.std.proofs.lemmas.List.{map_push}
use Rattle.spi_lex.specs.declared.token.Token.{Token}
use Rattle.spi_parse.specs.declared.fault.ParseFault.{ParseFault}
use Rattle.spi_parse.specs.declared.fault.ParseFault.TheVariants as faults
use Rattle.spi_heading.specs.Each.{each_pieces, IsWhole, EachAt}
use Rattle.spi_heading.specs.Repeated.{RepeatedKind, IsSolidKind, ReadsRepeated, ReadsParts}
use Rattle.spi_heading.proofs.Standing.{AreTokensOf}
use Rattle.spi_heading.proofs.Each.{Along, along_each, each_fails, each_step, each_rises}

-- the parts that are in the vector so far stand behind token number `start`, up to number j
pub record HoldsTo {A : Type 0} (kind : RepeatedKind A) (v : Bool) (ts : List Token) (start : ℕ) (items : List A) (j : ℕ) : Type 0 where
  pub are : AllByRecursion (kind.Is v) (map kind.view items)
  pub within : j ≤ length ts
  pub stands : AreTokensOf ts start (each_pieces kind.pieces (map kind.view items) []) j

pub loop_begins : {A : Type 0} (kind : RepeatedKind A) (v : Bool) (ts : List Token) (start : ℕ) (items : List A) → items ≡ [] → start ≤ length ts → HoldsTo kind v ts start items start
loop_begins kind v ts start items e w = subst (λ l. HoldsTo kind v ts start l start) (sym e) (record { are = tt; within = w; stands = refl })

module _ {A : Type 0} (kind : RepeatedKind A) (is : IsSolidKind kind) (v : Bool) (ts : List Token) (start : ℕ) (items : List A) (j : ℕ) (held : HoldsTo kind v ts start items j) where
  along : Along kind.pieces is.behind (kind.Is v) ts start (map kind.view items) j
  along = record { are = held.are; within = held.within; stands = held.stands }

  pub loop_fails : (f : ParseFault) (r : Result (Vec A × ℕ) ParseFault) → IsErrAnd r (λ e. e ≡ f) → kind.Begins ts j → ReadsRepeated kind v (Err f) ts j → ReadsParts kind v r ts start
  loop_fails f r e b h = each_fails kind.pieces is.behind is.solid v (kind.Is v) kind.Begins ts start (λ (w : Vec A). map kind.view w.items) kind.view (map kind.view items) j f r e along b h

  pub loop_full : kind.Begins ts j → ReadsParts kind v (Err faults.NoMemory) ts start
  loop_full b = (map kind.view items, j, along_each kind.pieces is.behind (kind.Is v) ts is.solid start j (map kind.view items) along, b, tt)

  pub loop_ends : (kind.Begins ts j → ⊥) → EachAt kind.pieces (kind.Is v) (map kind.view items) ts start j × (kind.Begins ts j → ⊥)
  loop_ends none = (along_each kind.pieces is.behind (kind.Is v) ts is.solid start j (map kind.view items) along, none)

  module _ (k : ℕ) (a : A) (r : ReadsRepeated kind v (Ok (a, k)) ts j) where
    step : Along kind.pieces is.behind (kind.Is v) ts start (map kind.view items ++ kind.view a ∷ []) k
    step = each_step kind.pieces is.behind is.solid v (kind.Is v) kind.Begins ts start (map kind.view items) j k (kind.view a) along r

    pub loop_rises : (j < k) × (k ≤ length ts)
    loop_rises = (each_rises kind.pieces is.behind is.solid (IsWhole v kind.pieces (kind.Is v)) ts (kind.view a) j k held.within r, step.within)

    pub loop_reads : (more : List A) → more ≡ items ++ a ∷ [] → HoldsTo kind v ts start more k
    loop_reads more e =
        let are : map kind.view items ++ kind.view a ∷ [] ≡ map kind.view more = sym (ap (map kind.view) e ∙ map_push kind.view items a) in
        record {
          are = subst (AllByRecursion (kind.Is v)) are step.are;
          within = step.within;
          stands = subst (λ (xs : List kind.Part). AreTokensOf ts start (each_pieces kind.pieces xs []) k) are step.stands;
        }
