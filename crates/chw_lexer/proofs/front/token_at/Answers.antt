use Rattle.std.proofs.Common.{◌≡◌, ◌<◌, ℕ, List, [], ◌∷◌, length, get_or, Bool, true, sym, ◌∙◌, arith}
use Rattle.chw_base.specs.Names.{is_capital}
use Rattle.chw_lexer.specs.Scanning.{BeginsWith}
use Rattle.chw_lexer.proofs.Names.{upper_token}
use Rattle.chw_lexer.proofs.front.token_at.Goals as goal

begins : (test : ℕ → Bool) (bytes : List ℕ) → 0 < length bytes → test (get_or bytes 0 0) ≡ true → BeginsWith test bytes
begins test [] some first = absurd (omega arith)
begins test (b ∷ bytes) some first = first

pub returns-then-is_capital-clause-some : goal.returns-then-is_capital-clause-some
returns-then-is_capital-clause-some c =
    upper_token c.args.bytes.now c.run_len-len.result (begins is_capital c.args.bytes.now c.requires (sym c.is_capital.ensures ∙ c.if-is_capital.true)) c.run_len-len.ensures
