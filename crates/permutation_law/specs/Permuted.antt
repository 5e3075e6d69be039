-- The permutations of an index's nodes: where a permutation's version is the version word of a node that is free, it
-- has the node's live slots in rising order of names.
use Rattle.std.specs.Prelude.{◌≡◌, ℕ, ◌+◌, ◌<◌, ◌≤◌, ◌⊎◌, ◌&&◌, nat_lt, if◌then◌else◌, List}
use mathlib.Core.Option.{some}
use lib.ListN.{get_elem?}
use Rattle.pm_words.specs.declared.layout.Layout.{Layout}
use Rattle.pm_words.specs.Codes.{no_permutation}
use Rattle.pm_words.specs.Locations.{Volatile, at}
use Rattle.pm_words.specs.Offsets.{permutation_offset, permutation_version_offset}
use Rattle.version_lock.specs.Versions.{IsFree}
use Rattle.call_stages.specs.Stages.{Stage, Tells}
use Rattle.permutation.specs.Permutations.{IsPermutationOf}
use Rattle.permutation.specs.Sortings.{Sorting, Unsorted, Storing, Stored, HoldsBy}
use Rattle.index_law.specs.Facts.{Facts}
use Rattle.index_law.specs.Worlds.{Party, World, facts}
use Rattle.index_law.specs.Lawful.{Lawful}

-- The version of a node's permutation, and its words.
unfoldable pub made_at : Layout → List ℕ → ℕ → ℕ
made_at l words n = if nat_lt n l.nodes then at l words (Volatile n permutation_version_offset) else 0

unfoldable pub permutation_in : Layout → List ℕ → ℕ → ℕ → ℕ
permutation_in l words n k =
    if nat_lt n l.nodes && nat_lt k 8 then at l words (Volatile n (permutation_offset k)) else 0

-- The node's permutation is that of its words.
abbrev pub IsInOrder : Layout → List ℕ → Facts → ℕ → Type 0
IsInOrder l words f n = IsPermutationOf l.slots (permutation_in l words n) (f.now n)

-- The world with what each party has of the permutation of the node that it holds.
pub record Permuted : Type 0 where
  pub world : World
  pub sortings : List Sorting

-- A party has stored the node's permutation, which counts once it gives the node back.
pub record IsStored (z : Permuted) (n : ℕ) : Type 0 where
  pub number : ℕ
  pub lock : ℕ
  pub party : Party
  pub there : get_elem? z.sortings number ≡ some (Stored n lock)
  pub at : get_elem? z.world.parties number ≡ some party

-- What a party is sure of.
abbrev pub SureSorting : Layout → Facts → List ℕ → Stage → Sorting → Type 0
SureSorting l f words stage Unsorted = Unit {0}
SureSorting l f words stage (Storing n lock seen) = HoldsBy stage n lock × Tells seen (permutation_in l words n)
SureSorting l f words stage (Stored n lock) =
    HoldsBy stage n lock × (made_at l words n ≡ lock + 1) × IsInOrder l words f n

pub record IsPermuted (z : Permuted) : Type 0 where
  pub lawful : Lawful z.world
  -- a free node whose version word is its permutation's version has its live slots there in rising order of names
  pub serves : (n : ℕ) → n < z.world.layout.nodes → IsFree ((facts z.world).version n) z.world.generation →
      made_at z.world.layout z.world.words n ≡ (facts z.world).version n →
      IsInOrder z.world.layout z.world.words (facts z.world) n
  -- a permutation was never made, or at a version word that the node has or had, or it is that of the node's holder
  pub made : (n : ℕ) → n < z.world.layout.nodes → (made_at z.world.layout z.world.words n ≡ no_permutation) ⊎
      ((made_at z.world.layout z.world.words n ≤ (facts z.world).version n) ⊎ IsStored z n)
  pub sure : (i : ℕ) (sorting : Sorting) (p : Party) → get_elem? z.sortings i ≡ some sorting →
      get_elem? z.world.parties i ≡ some p →
      SureSorting z.world.layout (facts z.world) z.world.words p.stage sorting
