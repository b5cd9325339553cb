-- The bytes that part a text, by their codes in ASCII (RFC 20). POSIX calls the space and the tab blanks; a carriage
-- return counts as one here too, so that lines which end in CR LF have the same words.
use Rattle.std.specs.Prelude.{ℕ, Bool, ◌==◌, ◌||◌}

-- the line feed, LF
abbrev pub is_line_feed : ℕ → Bool
is_line_feed byte = byte == 10

-- a space, a horizontal tab or a carriage return
abbrev pub is_blank : ℕ → Bool
is_blank byte = byte == 32 || byte == 9 || byte == 13
