-- How an answer is written: in pieces, one call of `put` for each. `gives` is what a call of `put`
-- may do, `written` the bytes that a sink tells.
use Rattle.std.specs.Prelude.{◌≡◌, ◌≢◌, ℕ, zero, suc, ◌+◌, ◌*◌, ◌/◌, ◌-◌, ◌<◌, List, length, take, drop, Option, Result, Ok, Err}
use Rattle.chw_base.specs.Writing.{GrewBy, Writes}
use Rattle.chw_base.specs.declared.limits.TheConstants.{PIECE_BYTES}
use Rattle.chw_base.specs.declared.outcome.Or.{Or}
use Rattle.chw_base.specs.declared.outcome.Or.TheVariants.{Memory}
use Rattle.chw_base.specs.declared.sink.SinkFault.{SinkFault}

-- how many pieces bytes are written in
abbrev pub pieces : List ℕ → ℕ
pieces bytes = (length bytes + (PIECE_BYTES - 1)) / PIECE_BYTES

-- the piece of this number, counted from 0
abbrev pub piece : List ℕ → ℕ → List ℕ
piece bytes k = take PIECE_BYTES (drop (PIECE_BYTES * k) bytes)

module _ {S : Type 0} (gives : S → List ℕ → Result (Unit {0}) (Or SinkFault) → S → Type 0) where
  -- the second sink is the first one after one call for each of the first k pieces, in order, each
  -- taken whole
  pub data PutsFirst (bytes : List ℕ) : ℕ → S → S → Type 0 where
    none : (s : S) → PutsFirst bytes zero s s
    more : (k : ℕ) (s t u : S) → PutsFirst bytes k s t → gives t (piece bytes k) (Ok tt) u → PutsFirst bytes (suc k) s u

  -- the whole answer was written, with no fault
  pub record WritesAll (written : S → Option (List ℕ)) (faults : S → ℕ) (bytes : List ℕ) (s t : S) : Type 0 where
    pub puts : PutsFirst bytes (pieces bytes) s t
    pub grew : GrewBy bytes (written s) (written t)
    pub faults_same : faults t ≡ faults s

  -- the call for some piece gave this answer, after those before it were taken whole; so some first
  -- part of the answer was written, which is whole pieces where memory was wanting
  pub record StopsAt (written : S → Option (List ℕ)) (answer : Or SinkFault) (bytes : List ℕ) (s u : S) : Type 0 where
    pub k : ℕ
    pub within : k < pieces bytes
    pub t : S
    pub puts : PutsFirst bytes k s t
    pub stop : gives t (piece bytes k) (Err answer) u
    pub part : (n : ℕ) × GrewBy (take n bytes) (written s) (written u) × (answer ≡ Memory → n ≡ PIECE_BYTES * k)

  -- the line was put in one call, which found memory
  pub record TellsLine (written : S → Option (List ℕ)) (faults : S → ℕ) (line : List ℕ) (s t : S) : Type 0 where
    pub answer : Result (Unit {0}) (Or SinkFault)
    pub call : gives s line answer t
    pub memory : answer ≢ Err Memory
    pub writes : Writes line (written s) (written t) (faults s) (faults t) answer

  -- where memory was wanting: nothing was put, which happens to lines that take memory to make
  -- alone; or the line was put in one call, which found no memory
  pub data TellsNothing (line : List ℕ) (Takes : Type 0) : S → S → Type 0 where
    silent : (s : S) → Takes → TellsNothing line Takes s s
    failed : (s t : S) → gives s line (Err Memory) t → TellsNothing line Takes s t
