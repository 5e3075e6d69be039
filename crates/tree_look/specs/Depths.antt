-- The depth at which two keys part.
use Rattle.std.specs.Prelude.{◌≢◌, ℕ, zero, suc, ◌+◌, ◌^◌, ◌<◌, ◌==◌, if◌then◌else◌}
use Rattle.radix_nodes.specs.Keys.{key_bytes}
use Rattle.tree_law.specs.Trees.{first_bytes, byte_at}
use Rattle.tree_law.specs.Paths.{PartsAt}

-- of so many bytes from this depth on, how many are the same before the first that aren't, and those before
abbrev pub shared_from : ℕ → ℕ → ℕ → ℕ → ℕ
shared_from one other zero depth = depth
shared_from one other (suc left) depth =
    if byte_at depth one == byte_at depth other then shared_from one other left (depth + 1) else depth

-- how many first bytes two keys share
abbrev pub shared_of : ℕ → ℕ → ℕ
shared_of one other = shared_from one other key_bytes 0

-- Keys that aren't one part there.
abbrev pub KeysPart : Type 0
KeysPart = (one other : ℕ) → one < 256 ^ key_bytes → other < 256 ^ key_bytes → one ≢ other →
    (shared_of one other < key_bytes) × PartsAt (shared_of one other) one other

-- keys whose first bytes differ part before these end
abbrev pub PartsBefore : Type 0
PartsBefore = (depth at one other : ℕ) → depth < key_bytes → PartsAt at one other →
    first_bytes depth one ≢ first_bytes depth other → at < depth
