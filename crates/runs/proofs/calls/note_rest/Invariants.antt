use Rattle.std.proofs.Common.{◌≡◌}
use Rattle.runs.specs.Plays.{NotedTo}
use Rattle.runs.proofs.calls.note_rest.Given as goal

abbrev pub invariant-loop-place : goal.invariant-loop-place
invariant-loop-place l = NotedTo l.initial.running.day l.place l.running.day × (l.running.book ≡ l.initial.running.book)
