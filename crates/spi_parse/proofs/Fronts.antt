-- A loop over the items of a list.
use Rattle.std.proofs.Common.{◌≡◌, List, [], ◌∷◌, ◌++◌, Ok, Err, refl, sym, ap, ◌∙◌, append_assoc, append-nil}
use Rattle.spi_parse.specs.declared.fault.Stop.{Stop}
use Rattle.spi_parse.specs.declared.fault.Stop.TheVariants as stops
use Rattle.spi_parse.specs.Tokens.{State}
use Rattle.spi_parse.specs.Table.{ListItem, one, last}
use Rattle.spi_parse.specs.Reading.{◌>>=◌, Out, Fails, next_list, front}

-- before the first item
pub front_none : {X E : Type 0} (r : Out (List X × E)) → front [] r ≡ r
front_none (Err e) = refl
front_none (Ok z) = refl

module _ {X E : Type 0} (items : State → Out (ListItem X E)) (lists : State → Out (List X × E)) (law : (s : State) → lists s ≡ next_list (items s) lists) where
  -- after one more item
  regroup : (f : List X) (y : X) (r : Out (List X × E)) → front f (r >>= λ z. Ok ((y ∷ z.0.0, z.0.1), z.1)) ≡ front (f ++ y ∷ []) r
  regroup f y (Err e) = refl
  regroup f y (Ok z) = ap (λ (l : List X). Ok ((l, z.0.1), z.1)) (sym (append_assoc f (y ∷ []) z.0.0))

  pub goes_on : (f : List X) (y : X) (s s' : State) (total : Out (List X × E)) → items s ≡ Ok (one y, s') → front f (lists s) ≡ total → front (f ++ y ∷ []) (lists s') ≡ total
  goes_on f y s s' total e so_far = sym (regroup f y (lists s')) ∙ sym (ap (front f) (law s ∙ ap (λ (r : Out (ListItem X E)). next_list r lists) e)) ∙ so_far

  pub is_done : (f : List X) (y : E) (s s' : State) (total : Out (List X × E)) → items s ≡ Ok (last y, s') → front f (lists s) ≡ total → total ≡ Ok ((f, y), s')
  is_done f y s s' total e so_far = sym so_far ∙ ap (front f) (law s ∙ ap (λ (r : Out (ListItem X E)). next_list r lists) e) ∙ ap (λ (l : List X). Ok ((l, y), s')) (append-nil f)

  pub gives_up : (f : List X) (stop : Stop) (s : State) (total : Out (List X × E)) → Fails stop (items s) → front f (lists s) ≡ total → Fails stop total
  gives_up f stops.NoMemory s total e so_far = tt
  gives_up f (stops.Fault d) s total e so_far = sym so_far ∙ ap (front f) (law s ∙ ap (λ (r : Out (ListItem X E)). next_list r lists) e)
