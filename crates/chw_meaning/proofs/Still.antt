-- What has one value at every history.
use Rattle.std.proofs.Common.{ℕ}
use Rattle.chw_terms.specs.declared.program.Program.{Program}
use Rattle.chw_layout.specs.Datum.{Datum}
use Rattle.chw_meaning.specs.Values.{History, Value, Thunk, sample, known}
use Rattle.chw_meaning.specs.Eval.{Forces, f_sample, f_known}

pub sample_still : {p : Program} {n : ℕ} {th : Thunk} {at h g : History} {v : Value} → Forces p n (sample th at) h v → Forces p n (sample th at) g v
sample_still (f_sample a) = f_sample a

pub data_still : {p : Program} {n : ℕ} {d : Datum} {h g : History} {v : Value} → Forces p n (known d) h v → Forces p n (known d) g v
data_still f_known = f_known
