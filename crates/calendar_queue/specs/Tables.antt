-- Empty tables.
use Rattle.std.specs.Prelude.{◌≡◌, ℕ, replicate, None, Option, slice_index_or}
use Rattle.std.proofs.Common.{⊎_elim, arith}
use Rattle.std.proofs.lemmas.List.{get_or_past, get_or-replicate, length-replicate}
use Rattle.std.proofs.lemmas.Bool.{cases_lt}

module _ {A : Type 0} where
  pub empty_at : (n k : ℕ) → slice_index_or (replicate {A = Option A} n None) k None ≡ None
  empty_at n k =
      ⊎_elim
      (λ l. get_or-replicate n k None None l)
      (λ l. get_or_past (replicate n None) k None (omega (arith, length-replicate {A = Option A} n None)))
      (cases_lt k n)
