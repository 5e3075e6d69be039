-- What a part of a scan is answered: which names it lists, and where they end.
use Rattle.std.specs.Prelude.{◌≡◌, ℕ, ◌≤◌, true, List, length, take, Option, IfSome}
use Rattle.std.specs.List.{AllByRecursion}
use Rattle.cat_key.specs.Names.{AreNameWords}
use Rattle.cat_history.specs.Maps.{Map}
use Rattle.cat_history.specs.Scans.{is_below, range}
use Rattle.cat_history.specs.Writes.{after}
use Rattle.pm_words.specs.declared.layout.Layout.{Layout}
use Rattle.index_law.specs.Facts.{Facts, map_now, range_of}
use Rattle.node_ops.specs.declared.part.PartWords.{PartWords}
use Rattle.node_ops.specs.declared.running.Running.{Running}
use Rattle.node_ops.specs.Asked.{op_in, name_asked}
use Rattle.node_ops.specs.Parts.{Confirms, EndsAt, HasCompared, IsPartOf, pairs_in, pairs_of}
use Rattle.node_ops.specs.PartSteps.{entry_name}
use Rattle.node_ops.specs.Permuting.{PermutationRead, reading_of}
use Rattle.node_ops.specs.RunningSteps.{count_in, listed_in}

-- It lists the first names of the map from the low one on, as many as are asked for, up to the high one, which lies
-- above the low one, or to the last: each in its words and with its number.
pub record ListsRange (m : Map) (low : List ℕ) (count : ℕ) (words : PartWords) : Type 0 where
  pub few : words.len ≤ 64
  pub bounds : IfSome words.high (λ high. is_below low high ≡ true)
  pub lists : pairs_of words ≡ take count (range m low words.high)
  pub named : AllByRecursion (λ (entry : List ℕ). AreNameWords (entry_name entry)) (take words.len words.entries)

-- As it is done: it lists the node's names from the low one on, as the map had them at its place; the high one is where
-- the node's range ends; it tells the node's version word; and it sorted no names where it had read a permutation, and
-- else all that the range has.
pub record IsPartAt (l : Layout) (f : Facts) (reading : Option PermutationRead) (low : List ℕ) (count : ℕ)
    (words : PartWords) : Type 0 where
  pub part : IsPartOf (after f.base f.history words.place) (range_of l f words.node) low count words
  pub ends : EndsAt (range_of l f words.node) low words.high
  pub version : f.version words.node ≡ words.version
  pub compared : HasCompared reading (length (pairs_in (map_now f) (range_of l f words.node))) words

-- That a machine with a listing, which is a part's, is done now, if its action gives the version word that it tells.
abbrev pub ListsAt : Layout → Facts → Running → ℕ → Type 0
ListsAt l f machine x =
    IfSome (listed_in machine) (λ words. IfSome (count_in machine) (λ count. Confirms machine x words →
    IsPartAt l f (reading_of machine) (name_asked (op_in machine)) count words))
