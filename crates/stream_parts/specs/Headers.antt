-- What the header lines of an open commit or tag have said: git-fast-import(1), "commit" and "tag".
use Rattle.std.specs.Prelude.{ℕ, List, None}
use Rattle.stream_parts.specs.declared.headers.CommitHeader.{CommitHeader}
use Rattle.stream_parts.specs.declared.headers.TagHeader.{TagHeader}

-- A commit that has named its branch and nothing else yet.
abbrev pub new_commit_header : List ℕ → CommitHeader
new_commit_header ref =
    record { ref_name = ref; author = None; committer = None; encoding = None }

-- A tag that has named its ref and nothing else yet.
abbrev pub new_tag_header : List ℕ → TagHeader
new_tag_header ref = record { ref_name = ref; target = None; tagger = None }
