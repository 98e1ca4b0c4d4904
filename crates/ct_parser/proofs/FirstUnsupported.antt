-- The place of the first token that is left out.
use Rattle.std.proofs.Common.{◌≡◌, ℕ, ◌<◌, suc, List, [], ◌∷◌, Option, None, Some, All, length, get_or, take, drop, sym, subst, arith, get_or-take}
use Rattle.std.specs.Prelude.{MatchOption}
use Rattle.std.specs.List.{AllWithin, HoldsAt}
use Rattle.std.proofs.Math.Seq.{split_at}
use Rattle.std.proofs.lemmas.List.{length-take-le}
use Rattle.std.proofs.lemmas.List.Elements.{All-from_all_within}
use Rattle.ct_base.specs.declared.lexical.Token.{Token}
use Rattle.ct_parser.specs.Unsupported.{IsUnsupported, IsFirst}

abbrev pub IsSupported : Token → Type 0
IsSupported token = IsUnsupported token → ⊥

first_at : (tokens : List Token) (place : ℕ) → place < length tokens → HoldsAt IsUnsupported tokens place → AllWithin IsSupported tokens 0 place → IsFirst tokens place
first_at [] place within h so_far = absurd (omega (arith, within))
first_at (t ∷ tokens) place within h so_far =
    let all = t ∷ tokens in
    let count : length (take place all) ≡ place = length-take-le place all (omega arith) in
    record {
      before = take place all;
      token = get_or all place t;
      after = drop (suc place) all;
      split = split_at all place t within;
      place_is = sym count;
      supported = All-from_all_within IsSupported (take place all) (λ k d low high.
          let below : k < place = omega (arith, count, high) in
          subst IsSupported (sym (get_or-take place all k d below)) (so_far k d low below));
      unsupported = h t;
    }

-- by what a search tells: where it finds none, and where it finds the first
pub first_of_search : (tokens : List Token) (found : Option ℕ) → MatchOption found (AllWithin IsSupported tokens 0 (length tokens)) (λ place. (place < length tokens) × HoldsAt IsUnsupported tokens place × AllWithin IsSupported tokens 0 place) → MatchOption found (All IsSupported tokens) (IsFirst tokens)
first_of_search tokens None h = All-from_all_within IsSupported tokens h
first_of_search tokens (Some place) h = first_at tokens place h.0 h.1 h.2
