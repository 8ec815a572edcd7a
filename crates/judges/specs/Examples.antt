-- The definitions at work on small lists. Assumes nothing.
use Rattle.std.specs.Prelude.{◌≡◌, ℕ, ◌*◌, true, false, T, List, [], ◌∷◌, nat_le}
use Rattle.std.proofs.Common.{lit≤}
use Rattle.model.specs.declared.timing.Timing.{Timing}
use Rattle.model.specs.Scale.{scale}
use Rattle.model.specs.Share.{density, shares, densities}
use Rattle.judges.specs.Approximate.{approximates}
use Rattle.judges.specs.Density.{density_yes}
use Rattle.judges.specs.Demand.{demand_yes}
use Rattle.judges.specs.Allowance.{demand_allowance}

-- a budget, a deadline and a period within the limits
abbrev pub timing : (c d t : ℕ) → T (nat_le 1 c) → T (nat_le c d) → T (nat_le d t) → T (nat_le t 100000) → Timing
timing c d t p q r s =
    record { budget = c; deadline = d; period = t; some = lit≤ p; fits = lit≤ q; constrained = lit≤ r; short = lit≤ s }

-- half a processor
abbrev pub half : Timing
half = timing 2 4 4 tt tt tt tt

-- the least that can be reserved
abbrev pub least : Timing
least = timing 1 100000 100000 tt tt tt tt

-- a third of a processor, which rounds up
abbrev pub third : Timing
third = timing 1 3 3 tt tt tt tt

-- two short deadlines
abbrev pub short_pair : List Timing
short_pair = timing 2 3 10 tt tt tt tt ∷ timing 2 5 10 tt tt tt tt ∷ []

-- two that fit, where the line from the first deadline on says too much
abbrev pub tight_pair : List Timing
tight_pair = timing 3 3 10 tt tt tt tt ∷ timing 5 8 10 tt tt tt tt ∷ []

-- a list to which a tail is added
abbrev pub small : List Timing
small = timing 5 10 10 tt tt tt tt ∷ []

-- the same at a hundred times its size
abbrev pub large : List Timing
large = timing 500 1000 1000 tt tt tt tt ∷ []

-- what the judges say of these
pub record Examples : Type 0 where
  -- two halves fill a processor, and not even the least goes beside them
  pub halves_fill : density_yes scale (half ∷ half ∷ []) ≡ true
  pub least_density : density scale least ≡ 11
  pub halves_full : density_yes scale (half ∷ half ∷ least ∷ []) ≡ false
  -- three thirds are a processor, but their rounded shares are more, whatever the number of steps
  pub two_thirds : (n : ℕ) → demand_yes scale n (third ∷ third ∷ []) ≡ true
  pub thirds_round_up : shares scale (third ∷ third ∷ third ∷ []) ≡ 1048578
  pub three_thirds : (n : ℕ) → demand_yes scale n (third ∷ third ∷ third ∷ []) ≡ false
  -- too dense for the density judge, but not for the demand judge
  pub short_densities : densities scale short_pair ≡ 1118482
  pub short_dense : density_yes scale short_pair ≡ false
  pub short_demand : demand_yes scale 0 short_pair ≡ true
  -- a retained step makes the demand smaller, and the answer yes
  pub tight_demand : approximates scale 0 tight_pair 8 ≡ 9961473
  pub tight_time : scale * 8 ≡ 8388608
  pub tight_line : demand_yes scale 0 tight_pair ≡ false
  pub tight_step : demand_yes scale 1 tight_pair ≡ true
  -- the longest tail of period 20 with 0 steps, with 1, and under a smaller cap
  pub tail_line : demand_allowance scale 0 0 small 20 9 ≡ 3
  pub tail_step : demand_allowance scale 1 0 small 20 9 ≡ 5
  pub tail_capped : demand_allowance scale 0 0 small 20 2 ≡ 2
  -- the longest tail of period 2000 grows with each refinement
  pub tail_first : demand_allowance scale 0 0 large 2000 599 ≡ 333
  pub tail_second : demand_allowance scale 0 1 large 2000 599 ≡ 374
  pub tail_third : demand_allowance scale 0 2 large 2000 599 ≡ 380
