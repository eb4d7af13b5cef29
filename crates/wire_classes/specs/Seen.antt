-- Keys, and those that were seen first with their numbers.
use Rattle.std.specs.Prelude.{◌≡◌, ℕ, ◌<◌, List, length, nat_eq, Some, slice_get, ⊤}
use Rattle.std.specs.declared.hash.BuildHasherDefault.{BuildHasherDefault}
use Rattle.std.specs.declared.hash.FoldHasher.{FoldHasher}
use Rattle.indexmap.specs.IndexMap.{IndexMap, get}
use Rattle.wire_classes.specs.Closed.{label_of}
use Rattle.wire_classes.specs.Keys.{KeysClash, hash_of}
use Rattle.wire_classes.specs.declared.agreeing.Finding.{Finding}
use Rattle.wire_classes.specs.declared.agreeing.Finding.TheVariants.{Apart, Unclear}

-- from the numbers of keys to places
abbrev pub Firsts : Type 0
Firsts = IndexMap ℕ ℕ (BuildHasherDefault FoldHasher)

-- Of the first keys, so many, each is equal to the key that was seen first with its number, and
-- has the label of that.
pub record AreSeen (keys : List (List ℕ)) (labels : List ℕ) (i : ℕ) (firsts : Firsts) : Type 0
  where
    pub each : (j : ℕ) (key : List ℕ) → j < i → slice_get keys j ≡ Some key
        → (f : ℕ) × (get nat_eq firsts (hash_of key) ≡ Some f) × (slice_get keys f ≡ Some key)
        × (label_of labels f ≡ label_of labels j)
    pub there : (hash f : ℕ) → get nat_eq firsts hash ≡ Some f → f < length keys

-- what stands against it that equal keys have one label
abbrev pub Finds : List (List ℕ) → List ℕ → Finding → Type 0
Finds keys labels (Apart p q) = KeysClash keys labels p q
Finds keys labels Unclear = ⊤
