pub mod ChainWalks
