-- What a writer holds after several writes.
use Rattle.std.proofs.Common.{ℕ, ◌+◌, List, ◌++◌, take, drop, Option, Some, None, sym, ap, ◌∙◌, append_assoc}
use Rattle.std.proofs.Math.Seq.{take-add}
use Rattle.std.proofs.lemmas.List.{append-nil}
use Rattle.std.specs.Io.KnownBytes.{Appends, Keeps}

-- with no write yet, none of the piece is appended
pub appends_none : (held : Option (List ℕ)) (piece : List ℕ) → Appends held held (take 0 piece)
appends_none None piece = tt
appends_none (Some xs) piece = sym (append-nil xs)

-- a further write appends the next part of the piece
pub appends_more : (first middle last : Option (List ℕ)) (piece : List ℕ) (k n : ℕ) → Appends first middle (take k piece) → Appends middle last (take n (drop k piece)) → Appends first last (take (k + n) piece)
appends_more None middle last piece k n h t = tt
appends_more (Some xs) None last piece k n h t = absurd h
appends_more (Some xs) (Some ys) None piece k n h t = absurd t
appends_more (Some xs) (Some ys) (Some zs) piece k n h t = t ∙ (ap (λ s. s ++ take n (drop k piece)) h ∙ (append_assoc xs (take k piece) (take n (drop k piece)) ∙ ap (λ s. xs ++ s) (sym (take-add k n piece))))

-- what keeps the bytes keeps what was appended
pub appends_kept : (first middle last : Option (List ℕ)) (bytes : List ℕ) → Appends first middle bytes → Keeps middle last → Appends first last bytes
appends_kept None middle last bytes h t = tt
appends_kept (Some xs) None last bytes h t = absurd h
appends_kept (Some xs) (Some ys) None bytes h t = absurd t
appends_kept (Some xs) (Some ys) (Some zs) bytes h t = t ∙ h
