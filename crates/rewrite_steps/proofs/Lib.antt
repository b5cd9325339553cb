mod ConvertLemmas
mod DecideLemmas
mod EndingLemmas
mod FlattenLemmas
mod RewriteLemmas
mod SweepLemmas
mod TrimLemmas
