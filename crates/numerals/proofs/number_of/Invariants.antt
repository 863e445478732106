use Rattle.std.proofs.Common.{◌≡◌, ◌<◌, ◌^◌, take}
use Rattle.gate_model.specs.text.Spelling.{number_of}
use Rattle.numerals.proofs.number_of.Given as goal

abbrev pub invariant-loop-digit : goal.invariant-loop-digit
invariant-loop-digit l = record { value : l.number ≡ number_of (take l.digit-index l.digits); small : l.number < 10 ^ l.digit-index }
