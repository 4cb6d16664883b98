-- What the search for a register key promises; no public contract cites it. Assumes nothing.
use Rattle.std.specs.Prelude.{◌≡◌, ℕ, ◌<◌, get_or, MatchOption, Option}
use Rattle.file.specs.declared.RegisterKey.{RegisterKey}
use Rattle.graph.specs.declared.Registers.{Registers}

-- entry i has the key
pub record HasKey (r : Registers) (k : RegisterKey) (i : ℕ) : Type 0 where
  pub name : get_or r.name i 0 ≡ k.name
  pub index : get_or r.index i 0 ≡ k.index

-- the first position that has the key, if there is one
abbrev pub FirstWith : Registers → RegisterKey → Option ℕ → Type 0
FirstWith r k p = MatchOption p ((i : ℕ) → i < r.count → HasKey r k i → ⊥) (λ i. (i < r.count) × HasKey r k i × ((j : ℕ) → j < i → HasKey r k j → ⊥))
