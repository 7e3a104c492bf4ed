-- Sessions, 0 to 3, by which the datagrams of a slot's connections are told apart.
use Rattle.std.specs.Prelude.{ℕ, ◌+◌, ◌%◌, ◌==◌, if◌then◌else◌}

-- A received 0xFF stands for the session that the slot had.
abbrev pub meant_session : ℕ → ℕ → ℕ
meant_session received held = if received == 0xFF then held else received

abbrev pub session_after : ℕ → ℕ
session_after s = (s + 1) % 4

-- The one after a session, or the next one where that is the session that the slot had.
abbrev pub advanced : ℕ → ℕ → ℕ
advanced s held = if session_after s == held then session_after (session_after s) else session_after s

-- The session that a server takes for a received one.
abbrev pub new_session : ℕ → ℕ → ℕ
new_session received held = advanced (meant_session received held) held
