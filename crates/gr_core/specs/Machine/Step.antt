-- What a command does to a desk, and what is answered to it (this project's profile).
use Rattle.std.specs.Prelude.{◌≡◌, ℕ, ◌+◌}
use Rattle.gr_core.specs.declared.refusal.Refusal.{Refusal}
use Rattle.gr_core.specs.declared.reply.Reply.{Reply}
use Rattle.gr_core.specs.Desks.State.{State}
use Rattle.gr_core.specs.Machine.Act.{Act}
use Rattle.gr_core.specs.Machine.Refusal.{Refuses, IsAccepted}
use Rattle.gr_core.specs.Machine.Effect.{effect, counted, note_of}

-- the reply to an accepted act, with the number of accepted acts
abbrev pub reply_to : State → ℕ → Act → Reply
reply_to s at act = record { accepted = s.header.accepted + 1; note = note_of s at act }

pub data Answer : Type 0 where
  Accepted : Reply → Answer
  Refused : Refusal → Answer

-- On a desk with the state s the act is answered so at this moment, and leaves the desk with the state t.
-- A refused act leaves everything as it was, the count and the clock included.
abbrev pub Step : State → ℕ → Act → Answer → State → Type 0
Step s at act (Refused refusal) t = Refuses s at act refusal × (t ≡ s)
Step s at act (Accepted reply) t =
    IsAccepted s at act × (reply ≡ reply_to s at act) × (t ≡ counted (effect s at act) at)
