-- How many bytes a text between quotes spells, byte after byte.
use Rattle.std.proofs.Common.{◌≡◌, ℕ, ◌+◌, ◌<◌, ◌≤◌, List, [], ◌∷◌, ◌++◌, length, drop, ap, refl, Some, arith, length-append, length-drop}
use Rattle.ct_token.specs.Constants.{element, element_of, SpellsBytes}
use Rattle.ct_token.proofs.Decoding.{SpelledSoFar, nothing_spelled, one_more, all_spelled}

-- So many bytes are spelled so far, each by one byte of the text at least.
pub record CountedSoFar (quote : ℕ) (inside rest : List ℕ) (count : ℕ) : Type 0 where
  pub found : List ℕ
  pub spelled : SpelledSoFar quote inside rest found
  pub counted : length found ≡ count
  pub within : count + length rest ≤ length inside

pub nothing_counted : (quote : ℕ) (inside rest : List ℕ) → inside ≡ rest → CountedSoFar quote inside rest 0
nothing_counted quote inside rest e =
    record {
      found = [];
      spelled = nothing_spelled quote inside rest e;
      counted = refl;
      within = omega (arith, ap length e);
    }

pub one_more_counted : (quote : ℕ) (inside rest after : List ℕ) (count count' byte taken : ℕ) → CountedSoFar quote inside rest count → element_of quote rest ≡ Some (element byte taken) → 0 < taken → taken ≤ length rest → after ≡ drop taken rest → count' ≡ count + 1 → CountedSoFar quote inside after count'
one_more_counted quote inside rest after count count' byte taken so_far is some within cut more =
    record {
      found = so_far.found ++ byte ∷ [];
      spelled = one_more quote inside rest so_far.found after (so_far.found ++ byte ∷ []) byte taken so_far.spelled is cut refl;
      counted = omega (arith, length-append so_far.found (byte ∷ []), so_far.counted, more);
      within = omega (arith, so_far.within, ap length cut, length-drop taken rest, more);
    }

pub all_counted : (quote : ℕ) (inside rest : List ℕ) (count : ℕ) → CountedSoFar quote inside rest count → rest ≡ [] → (bytes : List ℕ) × SpellsBytes quote inside bytes × (length bytes ≡ count)
all_counted quote inside rest count so_far none =
    (so_far.found, all_spelled quote inside rest so_far.found so_far.spelled none, so_far.counted)
