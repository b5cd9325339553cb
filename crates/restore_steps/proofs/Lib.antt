mod RestoreLemmas
mod WrittenLemmas
