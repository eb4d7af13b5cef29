-- What a shelf and a sink in memory hold.
use Rattle.std.specs.Prelude.{ℕ, List, [], map, Vec}
use Rattle.std.specs.declared.alloc.Global.{Global}
use Rattle.chw_base.specs.Files.{Files}

-- a shelf: its files, the numbers of the calls that fail, and how many calls and faults there were
pub record ShelfState : Type 0 where
  pub files : Files
  pub fail : List ℕ
  pub calls : ℕ
  pub faults : ℕ

-- a sink: what was written, the numbers of the calls that fail, and how many calls and faults there were
pub record SinkState : Type 0 where
  pub written : List ℕ
  pub fail : List ℕ
  pub calls : ℕ
  pub faults : ℕ

-- a shelf with these files, before its first call
abbrev pub new_shelf : Files → List ℕ → ShelfState
new_shelf files fail = record { files = files; fail = fail; calls = 0; faults = 0 }

-- a sink with nothing written, before its first call
abbrev pub new_sink : List ℕ → SinkState
new_sink fail = record { written = []; fail = fail; calls = 0; faults = 0 }

-- the files of a list of names and vectors
abbrev pub plain : List (List ℕ × Vec ℕ Global) → Files
plain files = map (λ file. (file.0, file.1.items)) files
