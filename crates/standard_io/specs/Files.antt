-- An input that holds several files, each behind its length in two bytes. Assumes nothing.
use Rattle.std.specs.Prelude.{cond, List, [], ◌∷◌, ℕ, zero, suc, ◌+◌, ◌*◌, leb, length, take, drop}

-- the first k of them: a length, the low byte first, and so many bytes; a file that isn't whole and what follows are left out
unfoldable pub files_from : ℕ → List ℕ → List (List ℕ)
files_from zero s = []
files_from (suc k) [] = []
files_from (suc k) (low ∷ []) = []
files_from (suc k) (low ∷ high ∷ s) =
    cond (leb (low + 256 * high) (length s))
    (take (low + 256 * high) s ∷ files_from k (drop (low + 256 * high) s))
    []

-- all of them: there are no more than bytes
abbrev pub files_of : List ℕ → List (List ℕ)
files_of s = files_from (length s) s
